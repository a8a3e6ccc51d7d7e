-- A handle, after a write through `lend`.
use Rattle.run_seats.specs.Shared.Sharing.{SharedView}
use Rattle.camlheap_c.specs.declared.handle.CamlheapDomain.{CamlheapDomain}

-- the handle, with this domain in it
abbrev pub handle_with : CamlheapDomain → SharedView → CamlheapDomain
handle_with d s = record d { value = s }
