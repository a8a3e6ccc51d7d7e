-- Which answers the clauses of the top call refuse. Each premise `says` is a clause of `camlheap` at one call of it.
use Rattle.std.proofs.Common.{◌≡◌, ◌∙◌, ℕ, ◌-◌, ◌^◌, ◌<◌, Option, Some, None, sym, subst, arith}
use Rattle.model_core.specs.declared.state.Sizes.{Sizes}
use Rattle.heap_rule.specs.Ending.{EndedHeap}
use Rattle.text_script.specs.declared.fault.ScriptFault.{ScriptFault}
use Rattle.text_ends.specs.Faults.{Rose}
use Rattle.text_script.specs.declared.words.job.Job.{Job}
use Rattle.text_script.specs.declared.words.job.Job.TheVariants.{Run}
use Rattle.camlheap_run.specs.declared.status.Status.{Status}
use Rattle.camlheap_run.specs.declared.status.Status.TheVariants.{Usage, Script, ReadFault, WriteFault}
use Rattle.camlheap_run.specs.Outcome.{IsDoneOrMemory}
use Rattle.camlheap_run.specs.Words.{AsksToRead}

-- words that ask for something aren't answered `Usage`
pub words_that_ask_are_heard : (asked : Option Job) (job : Job) (result : Status) → (result ≡ Usage → asked ≡ None) → asked ≡ Some job → result ≡ Usage → ⊥
words_that_ask_are_heard asked job result says asks usage = let e : Some job ≡ None = sym asks ∙ says usage in cc

-- a script that is spelled has no fault: where the bytes are told, no read and no write fails, and memory suffices, it is done
pub a_script_is_no_fault : (result : Status) (f : ScriptFault) → IsDoneOrMemory result → result ≡ Script f → ⊥
a_script_is_no_fault result f says fault = subst IsDoneOrMemory fault says

-- a count that stays, and can rise, hasn't risen
stays : (before : ℕ) → before < 2 ^ 64 - 1 → Rose before before → ⊥
stays before low rose = omega (arith, low, rose)

-- no read fault is answered where the source's count of faults stays
pub no_read_fault_without_a_rise : (z : Sizes) (before now : ℕ) (result : Status) → (result ≡ ReadFault → AsksToRead (Some (Run z)) (λ _. Rose before now)) → now ≡ before → before < 2 ^ 64 - 1 → result ≡ ReadFault → ⊥
no_read_fault_without_a_rise z before now result says same low fault = stays before low (subst (λ (n : ℕ). Rose before n) same (says fault))

-- nor where nothing is read
pub no_read_fault_without_a_script : (before now : ℕ) (result : Status) → (result ≡ ReadFault → AsksToRead None (λ _. Rose before now)) → result ≡ ReadFault → ⊥
no_read_fault_without_a_script before now result says fault = says fault

-- no write fault is answered where the sink's count of faults stays
pub no_write_fault_without_a_rise : (before now : ℕ) (ended : Option EndedHeap) (result : Status) → (result ≡ WriteFault ended → Rose before now) → now ≡ before → before < 2 ^ 64 - 1 → result ≡ WriteFault ended → ⊥
no_write_fault_without_a_rise before now ended result says same low fault = stays before low (subst (λ (n : ℕ). Rose before n) same (says fault))
