-- What a put counts.
use Rattle.std.specs.Prelude.{◌≡◌, ℕ, ◌+◌, List}
use Rattle.model_core.specs.declared.entry.Entry.{Entry}
use Rattle.model_core.specs.declared.reply.Reply.{Reply}
use Rattle.model_core.specs.declared.reply.Reply.TheVariants as reply
use Rattle.weak_maps.specs.Beside.{refusals_by}

-- labels that were left and are left, and commands of the domain that were refused and are. Done: a leaf was made. `full`: its allocation was refused. `type`: nothing was made. There is no other answer
abbrev pub PutCounts : ℕ → ℕ → ℕ → ℕ → Reply → Type 0
PutCounts labels left refused now reply.Done = (now ≡ refused) × (labels ≡ left + 1)
PutCounts labels left refused now reply.Full = (now ≡ refused + 1) × (labels ≡ left)
PutCounts labels left refused now reply.BadType = (now ≡ refused) × (labels ≡ left)
PutCounts labels left refused now r = ⊥

-- the same by what a domain has seen
abbrev pub PutSpends : ℕ → ℕ → ℕ → List Entry → List Entry → Reply → Type 0
PutSpends d labels left old new r = PutCounts labels left (refusals_by d old) (refusals_by d new) r
