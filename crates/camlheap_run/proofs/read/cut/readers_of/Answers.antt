use Rattle.std.proofs.Common.{arith, refl, ◌∙◌, ap, ◌+◌, drop}
use Rattle.camlheap_run.specs.Readers.{IsReaderOf}
use Rattle.camlheap_run.proofs.ReaderLemmas.{cut_further, one_longer}
use Rattle.camlheap_run.proofs.TellingLemmas.{all_pushed}
use Rattle.camlheap_run.proofs.read.cut.readers_of.Goals as goal

pub sections-preserved : goal.sections-preserved
sections-preserved c = record {
  each = rw c.in_ok-push.ensures.items (all_pushed (IsReaderOf c.args.version c.args.domains c.args.text.now) _ _ c.sections.invariant.each (record {
    reads = record { few = omega arith; some = c.requires.some; begins = c.next_heading-end.ensures.0; ends = c.next_heading-end.ensures.1; short = c.requires.short; tells = tt };
    version = refl;
    domains = refl;
  }));
  count = rw c.in_ok-push.ensures.items (one_longer _ _ ∙ ap (λ n. n + 1) c.sections.invariant.count);
  cut = rw c.in_ok-push.ensures.items (cut_further c.args.text.now (drop c.args.first c.args.text.now) c.sections.at c.sections.number c.sections.readers.items _ c.sections.invariant.count c.sections.invariant.cut c.in-Some.ensures.heading c.next_heading-end.ensures.0);
  inside = c.next_heading-end.ensures.1;
}
