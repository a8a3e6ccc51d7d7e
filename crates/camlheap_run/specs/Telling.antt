-- A run whose thread prints what a report has of it.
use Rattle.std.specs.Prelude.{◌≡◌, ℕ, List, [], true, refl}
use Rattle.std.proofs.Common.{◌∙◌}
use Rattle.run_turns.specs.Driving.{goes_nowhere, goes_further}
use Rattle.run_turns.specs.Runs.{GoesOn, RunView}
use Rattle.heap_rule.specs.Token.{SharedHeap, IsIn}
use Rattle.run_threads.specs.Driven.{Driven}
use Rattle.camlheap_run.specs.declared.write.report.Report.{Report}
use Rattle.camlheap_run.specs.declared.write.tellers.Teller.{Teller}
use Rattle.camlheap_run.specs.declared.write.tellers.Telling.{Telling}
use Rattle.camlheap_run.specs.declared.write.tellers.Telling.TheVariants.{Later, Told, Untold}
use Rattle.camlheap_run.specs.Writing.{run_text}

abbrev pub run_of : Teller → RunView
run_of t = t.run

-- what the teller's report has of its run
abbrev pub teller_text : Teller → List ℕ
teller_text t = run_text t.report t.run

-- nothing is told of the run so far
pub record IsBlank (wanted : Report) (t : Teller) : Type 0 where
  pub report : t.report ≡ wanted
  pub later : t.telling ≡ Later
  pub empty : t.text.bytes.items ≡ []

-- nothing is told so far; or the run is over, and where the text has all that the report has of it, it is that
abbrev pub Tells : Telling → Teller → Type 0
Tells Later t = t.text.bytes.items ≡ []
Tells Told t = (t.run.ended ≡ true) × (t.text.bytes.items ≡ teller_text t)
Tells Untold t = t.run.ended ≡ true

-- as a teller stands between any two turns
abbrev pub IsTeller : Teller → Type 0
IsTeller t = Tells t.telling t

-- the same teller, whose run has gone on or nowhere
pub record GoesOnTelling (old new : Teller) : Type 0 where
  pub run : GoesOn old.run new.run
  pub report : new.report ≡ old.report

-- a teller that wasn't turned
pub tells_nowhere : (t : Teller) → GoesOnTelling t t
tells_nowhere t = record { run = goes_nowhere t.run; report = refl }

-- a teller that went on twice
pub tells_further : (a b c : Teller) → GoesOnTelling a b → GoesOnTelling b c → GoesOnTelling a c
tells_further a b c p q = record { run = goes_further a.run b.run c.run p.run q.run; report = q.report ∙ p.report }

-- the tellers of a heap's runs, driven to their ends
abbrev pub AreTellersDriven : SharedHeap → List Teller → List Teller → Type 0
AreTellersDriven h old new = Driven (λ (x : SharedHeap) (t : Teller). IsIn t.run.token x × IsTeller t) GoesOnTelling (λ (t : Teller). t.run.ended ≡ true) h old new
