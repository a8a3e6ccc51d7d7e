-- No field of a block ever holds nothing, and no field of a raw block a block; so a load never answers that it read nothing.
use Rattle.std.proofs.Common.{◌≡◌, ◌≢◌, ◌⊎◌, ℕ, Bool, true, false, cond, IsTrue, List, [], ◌∷◌, ◌++◌, slice_get, Option, Some, None, refl, sym, subst, ⊎_elim}
use Rattle.model_core.specs.declared.label.Label.{Label}
use Rattle.model_core.specs.declared.command.Command.{Command}
use Rattle.model_core.specs.declared.command.Command.TheVariants.{Load}
use Rattle.model_core.specs.declared.entry.Entry.{Entry}
use Rattle.model_core.specs.declared.entry.Entry.TheVariants.{Command as CommandOf, End, Cut, Queue, Seal, Wipe, Last as LastOf, Collected, Done, Ran}
use Rattle.model_core.specs.declared.reply.Reply.{Reply}
use Rattle.model_core.specs.declared.reply.Reply.TheVariants.{Empty, Full}
use Rattle.model_core.specs.declared.reply.Applied.TheVariants.{Replied}
use Rattle.model_core.specs.declared.graph.Value.{Value}
use Rattle.model_core.specs.declared.graph.Value.TheVariants.{Int, Block, Nothing}
use Rattle.model_core.specs.declared.graph.Node.{Node}
use Rattle.model_core.specs.declared.graph.Node.TheVariants.{Plain, Raw, Ephe}
use Rattle.model_core.specs.declared.state.Pending.{Pending}
use Rattle.model_core.specs.declared.state.Pending.TheVariants.{Fin, Last}
use Rattle.model_core.specs.declared.state.Sizes.{Sizes}
use Rattle.model_core.specs.declared.state.State.{State}
use Rattle.model_core.specs.Graph.{Graph, same_label, node_at, with_node}
use Rattle.model_core.specs.Domains.{opening, shared_label, shared_node}
use Rattle.model_core.specs.Commands.{shown, is_full_value, is_int_value, has_full_fields, block_in, in_bounds, read_into, loaded, outcome}
use Rattle.model_core.specs.Entries.{wiped, with_wiped, after_run, next, reply}
use Rattle.model_core.specs.History.{state_after}
use Rattle.model_core.specs.Fronts.{Answers}
use Rattle.model_core.specs.Laws.{FieldsAreFull}
use Rattle.model_core.proofs.Graphs.GraphLemmas.{node_at-with_node_cases, node_at-append_cases}
use Rattle.model_core.proofs.Graphs.ListLemmas.{all_at}
use Rattle.model_core.proofs.Commands.MoveLemmas.{moved, held_block}

-- each field of each block holds what it may
abbrev pub HasFullFields : Graph → Type 0
HasFullFields g = (l : Label) (n : Node) → node_at g l ≡ Some n → IsTrue (has_full_fields n)

full_either : (g : Graph) → HasFullFields g → (l : Label) (new m : Node) → IsTrue (has_full_fields new) → (m ≡ new) ⊎ (node_at g l ≡ Some m) → IsTrue (has_full_fields m)
full_either g all l new m full either = ⊎_elim (λ is. subst (λ z. IsTrue (has_full_fields z)) (sym is) full) (λ old. all l m old) either

full_written : (g : Graph) → HasFullFields g → (l : Label) (new : Node) → IsTrue (has_full_fields new) → HasFullFields (with_node g l new)
full_written g all l new full k m at = full_either g all k new m full (node_at-with_node_cases g l k new m at)

full_grown : (g : Graph) → HasFullFields g → (e : Label × Node) → IsTrue (has_full_fields e.1) → HasFullFields (g ++ e ∷ [])
full_grown g all e full k m at = full_either g all k e.1 m full (node_at-append_cases g e k m at)

module _ (s : State) (all : HasFullFields s.graph) where
  full_outcome : (d : ℕ) (c : Command) → HasFullFields (outcome s d c).state.graph
  full_outcome d c = moved (λ t. HasFullFields t.graph) s d c (record {
    same = all;
    held = λ r v named. all;
    written = λ l old new at found same named full. full_written s.graph all l new (full (all l old found));
    made = λ is dst n named full. full_grown s.graph all _ full;
    registered = λ is f named. all;
    registered_last = λ is f named. all;
  })

  full_wiped : (l : Label) (places : List ℕ) (o : Option Node) → node_at s.graph l ≡ o → HasFullFields (with_wiped s l (wiped places o)).graph
  full_wiped l places None at = all
  full_wiped l places (Some (Plain tag fields)) at = full_written s.graph all l _ (all l _ at)
  full_wiped l places (Some (Raw tag fields)) at = full_written s.graph all l _ (all l _ at)
  full_wiped l places (Some (Ephe keys datum)) at = full_written s.graph all l _ refl

  full_after_run : (d : ℕ) (queue : List Pending) → HasFullFields (after_run s d queue).graph
  full_after_run d [] = all
  full_after_run d (Fin number l r ∷ rest) = all
  full_after_run d (Last number ∷ rest) = all

  full_next : (e : Entry) → HasFullFields (next s e).graph
  full_next (CommandOf d c true) = all
  full_next (CommandOf d c false) = full_outcome d c
  full_next (End d) = all
  full_next Cut = all
  full_next (Queue d places) = all
  full_next Seal = all
  full_next (Wipe l keys) = full_wiped l keys (node_at s.graph l) refl
  full_next (LastOf d place) = all
  full_next Collected = all
  full_next Done = all
  full_next (Ran d) = full_after_run d _

pub full_after : (s : State) (h : List Entry) → HasFullFields s.graph → HasFullFields (state_after s h).graph
full_after s [] all = all
full_after s (e ∷ h) all = full_after (next s e) h (full_next s all e)

full_opening : (z : Sizes) → HasFullFields (opening z).graph
full_opening z l n at = go (same_label shared_label l) at
  where
    go : (b : Bool) → cond b (Some shared_node) None ≡ Some n → IsTrue (has_full_fields n)
    go true h = let same : shared_node ≡ n = cc in subst (λ m. IsTrue (has_full_fields m)) same refl
    go false h = cc

-- whatever the history, the fields hold what they may
pub fields_law : FieldsAreFull
fields_law z h = full_after (opening z) h (full_opening z)

-- the reply that shows a value which isn't nothing isn't `none`
shown_full : (v : Value) → IsTrue (is_full_value v) → shown v ≢ Empty
shown_full (Int z) full same = cc
shown_full (Block l) full same = cc
shown_full Nothing full same = let clash : false ≡ true = full in cc

shown_int : (v : Value) → IsTrue (is_int_value v) → shown v ≢ Empty
shown_int (Int z) full same = cc
shown_int (Block l) full same = let clash : false ≡ true = full in cc
shown_int Nothing full same = let clash : false ≡ true = full in cc

read_full : (s : State) (d dst : ℕ) (o : Option Value) → ((v : Value) → o ≡ Some v → shown v ≢ Empty) → (in_bounds s o (read_into s d dst)).reply ≢ Empty
read_full s d dst None each same = cc
read_full s d dst (Some v) each same = each v refl same

-- a load never answers `none`
module _ (s : State) (all : HasFullFields s.graph) where
  loaded_full : (d dst index r : ℕ) (b : Option (Label × Node)) → block_in s d r ≡ b → (loaded s d dst index b).reply ≢ Empty
  loaded_full d dst index r None at = λ same. cc
  loaded_full d dst index r (Some (l, Plain tag fields)) at =
      read_full s d dst (slice_get fields index) (λ v here. shown_full v (all_at is_full_value fields (all l _ (held_block s d r l _ at).node) index v here))
  loaded_full d dst index r (Some (l, Raw tag fields)) at =
      read_full s d dst (slice_get fields index) (λ v here. shown_int v (all_at is_int_value fields (all l _ (held_block s d r l _ at).node) index v here))
  loaded_full d dst index r (Some (l, Ephe keys datum)) at = λ same. cc

  pub load_reply_full : (d k dst src index : ℕ) (full : Bool) (r : Reply) → reply s (CommandOf k (Load dst src index) full) ≡ Replied r → r ≢ Empty
  load_reply_full d k dst src index true r is same = let clash : Full ≡ Empty = cc in cc
  load_reply_full d k dst src index false r is same = loaded_full k dst index src (block_in s k src) refl cc

-- nor does a call that makes the entry of one
pub load_answers_full : (z : Sizes) (d k dst src index : ℕ) (full : Bool) (old new : List Entry) (r : Reply) → Answers z d old new (CommandOf k (Load dst src index) full) (Replied r) → r ≢ Empty
load_answers_full z d k dst src index full old new r a =
    load_reply_full (state_after (opening z) (old ++ a.between)) (fields_law z (old ++ a.between)) d k dst src index full r a.replies
