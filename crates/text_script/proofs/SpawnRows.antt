-- Worked rows of scripts of version 3: which faults their lines have.
use Rattle.std.proofs.Common.{◌≡◌, ℕ, List, [], ◌∷◌, refl, None, Some}
use Rattle.std.specs.Prelude.{flat_map, codes}
use Rattle.model_core.specs.Output.{line}
use Rattle.text_script.specs.declared.version.Version.TheVariants.{Two, Three}
use Rattle.text_script.specs.declared.fault.ScriptFault.TheVariants.{Syntax, Range, Spawn}
use Rattle.text_script.specs.Faults.{first_fault}

abbrev text : List (List ℕ) → List ℕ
text lines = flat_map line lines

-- the first section spawns the second and joins it
pub fork : first_fault Three 2 (text (codes "heap 3" ∷ codes "domain 0" ∷ codes "int 1 5" ∷ codes "spawn 1 1" ∷ codes "join 2 1" ∷ codes "domain 1" ∷ codes "argument 1" ∷ codes "result 1" ∷ [])) ≡ None
fork = refl

-- the same where versions up to 2 are read
pub fork_unread : first_fault Two 2 (text (codes "heap 3" ∷ codes "domain 0" ∷ codes "int 1 5" ∷ codes "spawn 1 1" ∷ codes "join 2 1" ∷ codes "domain 1" ∷ codes "argument 1" ∷ codes "result 1" ∷ [])) ≡ Some (Syntax 1)
fork_unread = refl

-- a section that no spawn names before it
pub unspawned : first_fault Three 2 (text (codes "heap 3" ∷ codes "domain 0" ∷ codes "domain 1" ∷ [])) ≡ Some (Spawn 3)
unspawned = refl

-- a section that spawns itself, one that is spawned twice, and a join before the spawn
pub itself : first_fault Three 2 (text (codes "heap 3" ∷ codes "domain 0" ∷ codes "spawn 0 1" ∷ [])) ≡ Some (Spawn 3)
itself = refl

pub twice : first_fault Three 2 (text (codes "heap 3" ∷ codes "domain 0" ∷ codes "spawn 1 1" ∷ codes "spawn 1 2" ∷ [])) ≡ Some (Spawn 4)
twice = refl

pub joined_early : first_fault Three 2 (text (codes "heap 3" ∷ codes "domain 0" ∷ codes "join 2 1" ∷ codes "spawn 1 1" ∷ [])) ≡ Some (Spawn 3)
joined_early = refl

-- a join of a section that another one spawned
pub joined_by_other : first_fault Three 3 (text (codes "heap 3" ∷ codes "domain 0" ∷ codes "spawn 1 1" ∷ codes "spawn 2 1" ∷ codes "domain 1" ∷ codes "join 2 2" ∷ [])) ≡ Some (Spawn 6)
joined_by_other = refl

-- a register that is kept, and a section that the run doesn't have
pub kept_register : first_fault Three 2 (text (codes "heap 3" ∷ codes "domain 0" ∷ codes "int 14 0" ∷ [])) ≡ Some (Range 3 1)
kept_register = refl

pub far_section : first_fault Three 2 (text (codes "heap 3" ∷ codes "domain 0" ∷ codes "spawn 2 1" ∷ [])) ≡ Some (Range 3 1)
far_section = refl
