use Rattle.std.proofs.Common.{◌≡◌, take}
use Rattle.model_core.specs.Domains.{opening}
use Rattle.model_core.specs.History.{replies, state_after}
use Rattle.judge_plain.proofs.scheduled.text.replies_of.Given as goal

-- the entries so far are followed
abbrev pub invariant-entries : goal.invariant-entries
invariant-entries l = record {
  state : l.heap ≡ state_after (opening l.sizes) (take l.entry-index l.history);
  own : l.own.items ≡ replies l.sizes (take l.entry-index l.history) l.domain;
}
