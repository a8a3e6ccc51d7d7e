use Rattle.std.proofs.Common.{◌≡◌, ℕ, ◌<◌, false, slice_get, Some}
use Rattle.camlheap_c.specs.declared.handle.CamlheapDomain.{CamlheapDomain}
use Rattle.camlheap_c.proofs.starting.is_any_full.Given as goal

abbrev pub invariant-handles : goal.invariant-handles
invariant-handles l = record {
  same : l.handles ≡ l.initial.handles;
  none : (i : ℕ) (d : CamlheapDomain) → i < l.at → slice_get l.handles i ≡ Some d → d.full ≡ false;
}
