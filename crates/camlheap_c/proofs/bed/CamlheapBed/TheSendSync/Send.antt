use Rattle.std.proofs.Common.{Bool, true, false}
use mir.Raw.{raw}
use base.Shift.{Keyless}
use denote.Memory.{lone}
use denote.RawPtr.{Ptr}
use denote.Struct.Struct.{exits_of}
use denote.Struct.Owning.{shape, fields, to}
use denote.Param.Send.{IsSend, AllSend, owning_send, struct_send, sendable}
use Rattle.std.proofs.Crossing as heap
use Rattle.std_alloc.proofs.SendSync.{quiet, lies}
use Rattle.std_heap.proofs.Global.TheSendSync as global
use Rattle.run_seats.specs.contracts.shared.bed.RunBed.{the_row as bed_row}
use Rattle.run_seats.proofs.shared.bed.RunBed.TheSendSync.{the_send as run_send}
use Rattle.camlheap_c.proofs.Values.{Heap}
use Rattle.camlheap_c.proofs.Bedded.{held}
use Rattle.camlheap_c.specs.contracts.bed.CamlheapBed.{the_row, the_type}

held_keyless : (t : Bool) (a : Heap.Denot) (p : Ptr) (x : bed_row.Denot) → Keyless (held t a p x)
held_keyless true a p x = (lies bed_row run_send p x, heap.frees.frees a (raw (lone bed_row.mir)) p)
held_keyless false a p x = tt

pub send : IsSend the_row
send =
    let all : AllSend (fields the_type) = (search sendable, (global.the_field_send, (search sendable, tt))) in
    owning_send the_type all (λ d. held_keyless d.full d.alloc d.at d.value) (λ k. quiet (to the_type) (exits_of k (fields the_type)) ((struct_send (shape the_type) all).leaving k))
