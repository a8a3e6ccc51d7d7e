use Rattle.std.proofs.Common.{◌≡◌, subst, sym}
use Rattle.example_handles.specs.Handling.{HandleMade, HandlesView, Settles, parted}
use Rattle.example_handles.proofs.Calls.{made}
use Rattle.example_handles.proofs.handles.Handles.make_handle.Goals as goal

pub returns-in_default-clause-answers : goal.returns-in_default-clause-answers
returns-in_default-clause-answers g c =
    let old : HandlesView = c.args.self.now in
    let new : HandlesView = c.make_command.new.self in
    let p = c.make_command.ensures in
    let same : new ≡ parted old new.seat new.resources = (λ i. record { seat = new.seat; resources = new.resources; most = p.most i }) in
    subst (λ (h : HandlesView). HandleMade old h c.args.dst) (sym same)
    (made old new.seat new.resources c.args.dst c.make_command.result c.is_kept.ensures p.performs c.requires.few c.in_default.not-Full (subst (Settles old) same p.settles))
