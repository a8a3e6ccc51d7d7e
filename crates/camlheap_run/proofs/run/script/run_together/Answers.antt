use Rattle.std.proofs.Common.{◌≡◌, Some, subst, sym, List, ℕ, map}
use Rattle.std.specs.Prelude.{Option}
use Rattle.std.specs.List.{AllByRecursion}
use Rattle.std.specs.Io.KnownBytes.{Appends}
use Rattle.run_turns.specs.Runs.{RunView}
use Rattle.heap_rule.specs.Ending.{EndedHeap}
use Rattle.camlheap_run.specs.declared.write.tellers.Teller.{Teller}
use Rattle.camlheap_run.specs.Running.{IsHere, IsOver, IsPastOf}
use Rattle.camlheap_run.specs.Telling.{IsTeller, run_of}
use Rattle.text_ends.specs.Writing.{AppendsFront}
use Rattle.camlheap_run.proofs.RunLemmas.{all_here, all_over}
use Rattle.camlheap_run.proofs.TellingLemmas.{runs_driven, tellers_here, tellers_tell, texts_told}
use Rattle.camlheap_run.proofs.run.script.run_together.Goals as goal

pub drive-tellers-requires-clause-here : goal.drive-tellers-requires-clause-here
drive-tellers-requires-clause-here g c κs within = tellers_here c.args.begun.heap c.args.report c.args.begun.runs.items c.in-Ok.tellers.tellers.items c.in-Ok.ensures.runs c.in-Ok.ensures.blank c.requires.here

pub write_tellers-written-requires : goal.write_tellers-written-requires
write_tellers-written-requires g c =
    subst (λ (ts : List Teller). AllByRecursion IsTeller ts) (sym c.deref.ensures.value) (tellers_tell c.args.begun.heap c.in-Ok.tellers.tellers.items c.drive-tellers.result.items c.drive-tellers.ensures.driven)

pub end-requires-clause-here : goal.end-requires-clause-here
end-requires-clause-here g c =
    let driven = runs_driven c.args.begun.heap c.in-Ok.tellers.tellers.items c.drive-tellers.result.items c.args.begun.runs.items c.in-Ok.ensures.runs c.drive-tellers.ensures.driven in
    subst (λ (rs : List RunView). AllByRecursion (IsHere c.args.begun.heap) rs) (sym c.runs_of.ensures) (all_here c.args.begun.heap c.args.begun.runs.items (map run_of c.drive-tellers.result.items) driven)

pub end-requires-clause-over : goal.end-requires-clause-over
end-requires-clause-over g c =
    let driven = runs_driven c.args.begun.heap c.in-Ok.tellers.tellers.items c.drive-tellers.result.items c.args.begun.runs.items c.in-Ok.ensures.runs c.drive-tellers.ensures.driven in
    subst (λ (rs : List RunView). AllByRecursion IsOver rs) (sym c.runs_of.ensures) (all_over c.args.begun.heap c.args.begun.runs.items (map run_of c.drive-tellers.result.items) driven)

pub returns-in-Ok-written-clause-done : goal.returns-in-Ok-written-clause-done
returns-in-Ok-written-clause-done g c = λ ended is.
    let last : ◌≡◌ {A = Option EndedHeap} (Some c.end.result) ended = cc in
    let told = texts_told c.args.begun.heap c.args.report c.in-Ok.tellers.tellers.items c.drive-tellers.result.items c.in-Ok.ensures.blank c.drive-tellers.ensures.driven in
    let bytes = rw (c.deref.ensures.value) at c.in-Ok-written.ensures.bytes in
    record {
      new = map run_of c.drive-tellers.result.items;
      past = c.end.result;
      is_past = last;
      driven = runs_driven c.args.begun.heap c.in-Ok.tellers.tellers.items c.drive-tellers.result.items c.args.begun.runs.items c.in-Ok.ensures.runs c.drive-tellers.ensures.driven;
      over = subst (λ (rs : List RunView). IsPastOf c.args.begun.heap rs c.end.result) c.runs_of.ensures c.end.ensures;
      written = subst (λ (t : List ℕ). Appends (g.K.Sink.written c.args.out.now) (g.K.Sink.written c.write_tellers-written.new.out) t) told bytes;
    }

pub returns-in-Err-written-clause-cut : goal.returns-in-Err-written-clause-cut
returns-in-Err-written-clause-cut g c = λ ended is.
    let last : ◌≡◌ {A = Option EndedHeap} (Some c.end.result) ended = cc in
    let told = texts_told c.args.begun.heap c.args.report c.in-Ok.tellers.tellers.items c.drive-tellers.result.items c.in-Ok.ensures.blank c.drive-tellers.ensures.driven in
    let bytes = rw (c.deref.ensures.value) at c.in-Err-written.ensures.bytes in
    record {
      new = map run_of c.drive-tellers.result.items;
      past = c.end.result;
      is_past = last;
      driven = runs_driven c.args.begun.heap c.in-Ok.tellers.tellers.items c.drive-tellers.result.items c.args.begun.runs.items c.in-Ok.ensures.runs c.drive-tellers.ensures.driven;
      over = subst (λ (rs : List RunView). IsPastOf c.args.begun.heap rs c.end.result) c.runs_of.ensures c.end.ensures;
      written = subst (λ (t : List ℕ). AppendsFront (g.K.Sink.written c.args.out.now) (g.K.Sink.written c.write_tellers-written.new.out) t) told bytes;
    }
