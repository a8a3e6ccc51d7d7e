-- Fronts that grow, and what a domain's front tells of the whole history.
use Rattle.std.proofs.Common.{◌≡◌, ◌⊎◌, inl, inr, ⊎_elim, ℕ, false, not, List, [], ◌∷◌, ◌++◌, refl, ap, sym, ◌∙◌, subst, append_assoc, append-nil, length, drop, get_or, Some, Bool, true, IsTrue, zero, suc}
use Rattle.std.specs.List.{list_all}
use Rattle.std.proofs.Math.Seq.{drop-append_seam, drop-length}
use Rattle.model_core.specs.declared.entry.Entry.{Entry}
use Rattle.model_core.specs.declared.graph.Value.{Value}
use Rattle.model_core.specs.declared.graph.Value.TheVariants.{Block, Nothing}
use Rattle.model_core.specs.declared.graph.Node.{Node}
use Rattle.model_core.specs.declared.graph.Node.TheVariants.{Plain, Raw, Ephe}
use Rattle.model_core.specs.declared.reply.Applied.{Applied}
use Rattle.model_core.specs.declared.state.Sizes.{Sizes}
use Rattle.model_core.specs.declared.state.State.{State}
use Rattle.model_core.specs.Domains.{opening, register}
use Rattle.model_core.specs.Graph.{node_at}
use Rattle.model_core.specs.Entries.{next, reply}
use Rattle.model_core.specs.History.{state_after, Legal, is_entry_of}
use Rattle.model_core.specs.Fronts.{AreCalls, NoneOf, IsFrontOf, is_call, is_full_major, unseen, Answers, Shape, PlainShape, RawShape, shape_of, Grew, KeepsDomain, HoldsFields, HoldsShape}
use Rattle.model_core.proofs.Graphs.GraphLemmas.{and_parts}
use Rattle.model_core.proofs.Reach.ReachLemmas.{is_false}
use Rattle.model_core.proofs.Histories.HistoryLemmas.{state_after-append}
use Rattle.model_core.proofs.Commands.FrameLemmas.{keeps_next, grew_next, grew_same, grew_after}

-- none of a list, one by one
pub none_cons : (d : ℕ) (e : Entry) (h : List Entry) → NoneOf d (e ∷ h) → (is_entry_of d e ≡ false) × NoneOf d h
none_cons d e h none = let parts = and_parts (not (is_entry_of d e)) (list_all (λ x. not (is_entry_of d x)) h) none in (is_false (is_entry_of d e) parts.0, parts.1)

none_push : (d : ℕ) (h : List Entry) (e : Entry) → NoneOf d h → is_entry_of d e ≡ false → NoneOf d (h ++ e ∷ [])
none_push d [] e none other = rw other refl
none_push d (x ∷ h) e none other = let parts = none_cons d x h none in rw parts.0 (none_push d h e parts.1 other)

-- a domain that has seen the whole history
pub front_whole : (d : ℕ) (h : List Entry) → IsFrontOf d h h
front_whole d h = record { rest = []; appends = sym (append-nil h); others = refl }

-- what the history goes on with is what the front hasn't seen
pub unseen_rest : (d : ℕ) (h front : List Entry) (f : IsFrontOf d h front) → unseen h front ≡ f.rest
unseen_rest d h front f = ap (drop (length front)) f.appends ∙ drop-append_seam front f.rest

all_push : (p : Entry → Bool) (h : List Entry) (e : Entry) → IsTrue (list_all p h) → IsTrue (p e) → IsTrue (list_all p (h ++ e ∷ []))
all_push p [] e all is = rw is refl
all_push p (x ∷ h) e all is = let parts = and_parts (p x) (list_all p h) all in rw parts.0 (all_push p h e parts.1 is)

all_drop : (p : Entry → Bool) (n : ℕ) (h : List Entry) (e : Entry) → IsTrue (list_all p (drop n h)) → IsTrue (p e) → IsTrue (list_all p (drop n (h ++ e ∷ [])))
all_drop p zero h e all is = all_push p h e all is
all_drop p (suc zero) [] e all is = refl
all_drop p (suc (suc n)) [] e all is = refl
all_drop p (suc n) (x ∷ h) e all is = all_drop p n h e all is

-- what is true of each entry behind a front is true of it behind the same front as one more stands
pub unseen_push : (p : Entry → Bool) (h front : List Entry) (e : Entry) → IsTrue (list_all p (unseen h front)) → IsTrue (p e) → IsTrue (list_all p (unseen (h ++ e ∷ []) front))
unseen_push p h front e all is = all_drop p (length front) h e all is

-- and nothing is behind a front that is the whole history
pub unseen_whole : (p : Entry → Bool) (h front : List Entry) → front ≡ h → IsTrue (list_all p (unseen h front))
unseen_whole p h front whole = subst (λ (f : List Entry). IsTrue (list_all p (drop (length f) h))) (sym whole) (subst (λ (l : List Entry). IsTrue (list_all p l)) (sym (drop-length h)) refl)

-- an entry of another domain leaves a front
pub front_push : (d : ℕ) (h front : List Entry) (e : Entry) → is_entry_of d e ≡ false → IsFrontOf d h front → IsFrontOf d (h ++ e ∷ []) front
front_push d h front e other f = record {
  rest = f.rest ++ e ∷ [];
  appends = ap (λ l. l ++ e ∷ []) f.appends ∙ append_assoc front f.rest (e ∷ []);
  others = none_push d f.rest e f.others other;
}

-- an own entry behind the whole history is an answer
pub answers_push : (z : Sizes) (d : ℕ) (h front : List Entry) (e : Entry) (r : Applied) → IsFrontOf d h front → (is_full_major e ≡ false → AreCalls (unseen h front)) → Legal z (h ++ e ∷ []) → reply (state_after (opening z) h) e ≡ r → Answers z d front (h ++ e ∷ []) e r
answers_push z d h front e r f calls legal replies = record {
  between = f.rest;
  others = f.others;
  calls = λ running. subst AreCalls (unseen_rest d h front f) (calls running);
  appends = ap (λ l. l ++ e ∷ []) f.appends;
  legal = legal;
  replies = ap (λ l. reply (state_after (opening z) l) e) (sym f.appends) ∙ replies;
}

keeps_after : (s : State) (h : List Entry) (d : ℕ) → NoneOf d h → KeepsDomain s (state_after s h) d
keeps_after s [] d none = record { registers = refl; serial = refl; ended = refl }
keeps_after s (e ∷ h) d none =
    let parts = none_cons d e h none in
    let first = keeps_next s e d parts.0 in
    let later = keeps_after (next s e) h d parts.1 in
    record { registers = later.registers ∙ first.registers; serial = later.serial ∙ first.serial; ended = later.ended ∙ first.ended }

-- what a front of domain d tells of that domain the history does too
pub keeps_front : (s : State) (d : ℕ) (h front : List Entry) → IsFrontOf d h front → KeepsDomain (state_after s front) (state_after s h) d
keeps_front s d h front f =
    let same : state_after s h ≡ state_after (state_after s front) f.rest = ap (state_after s) f.appends ∙ state_after-append s front f.rest in
    subst (λ (t : State). KeepsDomain (state_after s front) t d) (sym same) (keeps_after (state_after s front) f.rest d f.others)

grew_list : (s : State) (h : List Entry) → Grew s.graph (state_after s h).graph
grew_list s [] = grew_same s.graph s.graph refl
grew_list s (e ∷ h) = grew_after s.graph (next s e).graph (state_after (next s e) h).graph (grew_next s e) (grew_list (next s e) h)

-- each block that a front has the history has, with its shape
pub grew_front : (s : State) (d : ℕ) (h front : List Entry) → IsFrontOf d h front → Grew (state_after s front).graph (state_after s h).graph
grew_front s d h front f =
    let same : state_after s h ≡ state_after (state_after s front) f.rest = ap (state_after s) f.appends ∙ state_after-append s front f.rest in
    subst (λ (t : State). Grew (state_after s front).graph t.graph) (sym same) (grew_list (state_after s front) f.rest)

-- a block with a plain block's shape is a plain block
pub plain_of : (m : Node) (n tag : ℕ) → shape_of m ≡ PlainShape n tag → (fields : List Value) × (m ≡ Plain tag fields) × (length fields ≡ n)
plain_of (Plain t fields) n tag e =
    let tags : t ≡ tag = cc in
    let sizes : length fields ≡ n = cc in
    (fields, ap (λ x. Plain x fields) tags, sizes)
plain_of (Raw t fields) n tag e = cc
plain_of (Ephe keys datum) n tag e = cc

-- and one with a raw block's shape is a raw block
pub raw_of : (m : Node) (n tag : ℕ) → shape_of m ≡ RawShape n tag → (fields : List Value) × (m ≡ Raw tag fields) × (length fields ≡ n)
raw_of (Plain t fields) n tag e = cc
raw_of (Raw t fields) n tag e =
    let tags : t ≡ tag = cc in
    let sizes : length fields ≡ n = cc in
    (fields, ap (λ x. Raw x fields) tags, sizes)
raw_of (Ephe keys datum) n tag e = cc

-- what a front of domain d says of a block with fields in one of its registers holds in the history
pub holds_later : (s : State) (d r n : ℕ) (h front : List Entry) → IsFrontOf d h front → HoldsFields (state_after s front) d r n → HoldsFields (state_after s h) d r n
holds_later s d r n h front f holds =
    let held : register (state_after s h) d r ≡ Block holds.label = ap (λ (xs : List Value). get_or xs r Nothing) (keeps_front s d h front f).registers ∙ holds.held in ⊎_elim
    (λ (node : node_at (state_after s front).graph holds.label ≡ Some (Plain holds.tag holds.fields)).
    let grew = grew_front s d h front f holds.label (Plain holds.tag holds.fields) node in
    let plain = plain_of grew.0 n holds.tag (grew.2 ∙ ap (λ x. PlainShape x holds.tag) holds.size) in
    record { label = holds.label; tag = holds.tag; fields = plain.0; held = held; node = inl (grew.1 ∙ ap Some plain.1); size = plain.2 })
    (λ (node : node_at (state_after s front).graph holds.label ≡ Some (Raw holds.tag holds.fields)).
    let grew = grew_front s d h front f holds.label (Raw holds.tag holds.fields) node in
    let raw = raw_of grew.0 n holds.tag (grew.2 ∙ ap (λ x. RawShape x holds.tag) holds.size) in
    record { label = holds.label; tag = holds.tag; fields = raw.0; held = held; node = inr (grew.1 ∙ ap Some raw.1); size = raw.2 })
    holds.node

-- and of a block of any shape
pub shape_later : (s : State) (d r : ℕ) (shape : Shape) (h front : List Entry) → IsFrontOf d h front → HoldsShape (state_after s front) d r shape → HoldsShape (state_after s h) d r shape
shape_later s d r shape h front f holds = let grew = grew_front s d h front f holds.label holds.node holds.there in
    record { label = holds.label; node = grew.0; held = ap (λ (xs : List Value). get_or xs r Nothing) (keeps_front s d h front f).registers ∙ holds.held; there = grew.1; shape_is = grew.2 ∙ holds.shape_is }

none_append : (d : ℕ) (h k : List Entry) → NoneOf d h → NoneOf d k → NoneOf d (h ++ k)
none_append d [] k a b = b
none_append d (e ∷ h) k a b = let parts = none_cons d e h a in rw parts.0 (none_append d h k parts.1 b)

-- a front of a front
pub front_trans : (d : ℕ) (new mid old : List Entry) → IsFrontOf d new mid → IsFrontOf d mid old → IsFrontOf d new old
front_trans d new mid old f g = record {
  rest = g.rest ++ f.rest;
  appends = f.appends ∙ (ap (λ l. l ++ f.rest) g.appends ∙ append_assoc old g.rest f.rest);
  others = none_append d g.rest f.rest g.others f.others;
}

all_append : (p : Entry → Bool) (h l : List Entry) → IsTrue (list_all p h) → IsTrue (list_all p l) → IsTrue (list_all p (h ++ l))
all_append p [] l a b = b
all_append p (x ∷ h) l a b = let parts = and_parts (p x) (list_all p h) a in rw parts.0 (all_append p h l parts.1 b)

-- an answer from a front that had grown by entries of others alone is one from the older front
pub answers_after : (z : Sizes) (d : ℕ) (old mid new : List Entry) (e : Entry) (r : Applied) → IsFrontOf d mid old → (is_full_major e ≡ false → AreCalls (unseen mid old)) → Answers z d mid new e r → Answers z d old new e r
answers_after z d old mid new e r f calls a =
    let same : mid ++ a.between ≡ old ++ (f.rest ++ a.between) = ap (λ l. l ++ a.between) f.appends ∙ append_assoc old f.rest a.between in record {
      between = f.rest ++ a.between;
      others = none_append d f.rest a.between f.others a.others;
      calls = λ running. all_append is_call f.rest a.between (subst AreCalls (unseen_rest d mid old f) (calls running)) (a.calls running);
      appends = a.appends ∙ ap (λ l. l ++ e ∷ []) same;
      legal = a.legal;
      replies = ap (λ l. reply (state_after (opening z) l) e) (sym same) ∙ a.replies;
    }
