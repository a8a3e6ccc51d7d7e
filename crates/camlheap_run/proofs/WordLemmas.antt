-- The sizes of a heap that words ask for are within the limits.
use Rattle.std.proofs.Common.{◌≡◌, ℕ, zero, suc, ◌≤◌, refl, arith, None}
use Rattle.model_core.specs.Domains.{class_count, first_outside, sizes_of}
use Rattle.text_script.specs.declared.words.job.Generated.{Generated}
use Rattle.text_script.specs.Words.Jobs.{IsGenerable, load_sizes}
use Rattle.camlheap_run.specs.Running.{AreRunSizes}

-- the usual sizes fit each number of domains
usual : (n : ℕ) → n ≤ 7 → first_outside (sizes_of (suc n) 512 32768 class_count) ≡ None
usual zero few = refl
usual (suc zero) few = refl
usual (suc (suc zero)) few = refl
usual (suc (suc (suc zero))) few = refl
usual (suc (suc (suc (suc zero)))) few = refl
usual (suc (suc (suc (suc (suc zero))))) few = refl
usual (suc (suc (suc (suc (suc (suc zero)))))) few = refl
usual (suc (suc (suc (suc (suc (suc (suc zero))))))) few = refl
usual (suc (suc (suc (suc (suc (suc (suc (suc n)))))))) few = absurd (omega arith)

within : (n : ℕ) → 1 ≤ n → n ≤ 8 → first_outside (sizes_of n 512 32768 class_count) ≡ None
within zero some few = absurd (omega arith)
within (suc n) some few = usual n (omega (arith, few))

-- so a generated script has a heap
pub load_fits : (g : Generated) → IsGenerable g → AreRunSizes (load_sizes g)
load_fits g can = record { limits = within g.domains can.some can.domains; classes = refl }
