-- Reads answer what was last written, and what was written is seen until it is overwritten.
use Rattle.std.proofs.Common.{◌≡◌, ◌⊎◌, inl, inr, ⊎_elim, ℕ, List, [], ◌∷◌, slice_get, pos, option_map, unwrap_or, Option, Some, None, refl, ap, sym, ◌∙◌, subst}
use Rattle.model_core.specs.declared.label.Label.{Label}
use Rattle.model_core.specs.declared.command.Command.TheVariants.{Load, GetKey, GetData}
use Rattle.model_core.specs.declared.entry.Entry.{Entry}
use Rattle.model_core.specs.declared.graph.Value.{Value}
use Rattle.model_core.specs.declared.graph.Value.TheVariants.{Int, Nothing}
use Rattle.model_core.specs.declared.graph.Node.{Node}
use Rattle.model_core.specs.declared.graph.Node.TheVariants.{Plain, Raw, Ephe}
use Rattle.model_core.specs.declared.state.State.{State}
use Rattle.model_core.specs.Domains.{label_in, opening}
use Rattle.model_core.specs.Commands.{Outcome, shown, in_bounds, loaded, at_ephe, key_value, block_in, outcome}
use Rattle.model_core.specs.Entries.{next}
use Rattle.model_core.specs.History.{state_after, LegalFrom}
use Rattle.model_core.specs.WellFormed.{IsNumbered}
use Rattle.model_core.proofs.Commands.MoveLemmas.{held_block}
use Rattle.model_core.proofs.Histories.NumberLemmas.{numbered_next, numbered_after, numbered_opening}
use Rattle.model_laws.specs.Histories.Cells.{Cell, Field, Key, Datum, content, writes}
use Rattle.model_laws.specs.Histories.Reads.{Answers, ReadsAnswerLastWritten, IsWrittenIn, WritesAreSeen}
use Rattle.model_laws.proofs.OfHistories.CellLemmas.{held, content_is, cell_next, cells_law}
use Rattle.model_laws.proofs.OfHistories.SplitLemmas.{legal_first, legal_rest}
use Rattle.model_core.proofs.Commands.OutcomeLemmas.{bounds_each, ephe_each}

module _ (s : State) (d r : ℕ) (l : Label) (is : label_in s d r ≡ Some l) where
  -- the block in the register is this one
  cell_of_block : (k : Label) (n : Node) (cell : Cell) → block_in s d r ≡ Some (k, n) → held cell n ≡ content s.graph l cell
  cell_of_block k n cell e =
      let at = held_block s d r k n e in
      let twice : Some k ≡ Some l = sym at.label ∙ is in
      let same : k ≡ l = cc in
      sym (content_is s.graph k n cell at.node) ∙ ap (λ x. content s.graph x cell) same

  within : {A : Type 0} (o : Option A) (f : A → Outcome) (v : Value) → ((a : A) → o ≡ Some a → Answers (f a).reply v) → Answers (in_bounds s o f).reply v
  within o f v = bounds_each (λ a. Answers a.reply v) s (inl refl) o f

  loads : (dst i : ℕ) (b : Option (Label × Node)) → block_in s d r ≡ b → Answers (loaded s d dst i b).reply (content s.graph l (Field i))
  loads dst i None e = inl refl
  loads dst i (Some (k, Ephe keys datum)) e = inl refl
  loads dst i (Some (k, Plain tag fields)) e = within (slice_get fields i) _ (content s.graph l (Field i)) (λ v at.
      inr (ap shown (ap (λ o. unwrap_or o (Int (pos 0))) (sym at) ∙ cell_of_block k (Plain tag fields) (Field i) e)))
  loads dst i (Some (k, Raw tag fields)) e = within (slice_get fields i) _ (content s.graph l (Field i)) (λ v at.
      inr (ap shown (ap (λ o. unwrap_or o (Int (pos 0))) (sym at) ∙ cell_of_block k (Raw tag fields) (Field i) e)))

  at_keys : (f : Label → List (Option Label) → Value → Outcome) (v : Value) → ((k : Label) (keys : List (Option Label)) (datum : Value) → block_in s d r ≡ Some (k, Ephe keys datum) → Answers (f k keys datum).reply v)
      → Answers (at_ephe s (block_in s d r) f).reply v
  at_keys f v = ephe_each (λ a. Answers a.reply v) s (inl refl) d r f

  gets_key : (dst i : ℕ) → Answers (outcome s d (GetKey dst r i)).reply (content s.graph l (Key i))
  gets_key dst i = at_keys _ (content s.graph l (Key i)) (λ k keys datum e. within (slice_get keys i) _ (content s.graph l (Key i)) (λ key at.
      inr (ap shown (ap (λ o. unwrap_or (option_map key_value o) Nothing) (sym at) ∙ cell_of_block k (Ephe keys datum) (Key i) e))))

  gets_data : (dst : ℕ) → Answers (outcome s d (GetData dst r)).reply (content s.graph l Datum)
  gets_data dst = at_keys _ (content s.graph l Datum) (λ k keys datum e. inr (ap shown (cell_of_block k (Ephe keys datum) Datum e)))

pub reads_law : ReadsAnswerLastWritten
reads_law z h d legal =
    let s : State = state_after (opening z) h in
    record {
      load = λ dst src i l is. subst (Answers (outcome s d (Load dst src i)).reply) (cells_law z h legal l (Field i)) (loads s d src l is dst i (block_in s d src) refl);
      get_key = λ dst ephe i l is. subst (Answers (outcome s d (GetKey dst ephe i)).reply) (cells_law z h legal l (Key i)) (gets_key s d ephe l is dst i);
      get_data = λ dst ephe l is. subst (Answers (outcome s d (GetData dst ephe)).reply) (cells_law z h legal l Datum) (gets_data s d ephe l is dst);
    }

-- what a cell holds after some entries it held before them, or one of them wrote it
shifted : (s : State) (x : Entry) (k : List Entry) (l : Label) (cell : Cell) (v : Value) → IsWrittenIn (next s x) k l cell v → IsWrittenIn s (x ∷ k) l cell v
shifted s x k l cell v w = record { before = x ∷ w.before; entry = w.entry; after = w.after; splits = ap (λ t. x ∷ t) w.splits; writes = w.writes }

stays_or_written : (s : State) (k : List Entry) (l : Label) (cell : Cell) → IsNumbered s → LegalFrom s k
    → (content (state_after s k).graph l cell ≡ content s.graph l cell) ⊎ IsWrittenIn s k l cell (content (state_after s k).graph l cell)
stays_or_written s [] l cell numbered legal = inl refl
stays_or_written s (x ∷ k) l cell numbered legal = ⊎_elim
    (λ stays. first (writes s x l cell) refl stays)
    (λ w. inr (shifted s x k l cell _ w))
    (stays_or_written (next s x) k l cell (numbered_next s x legal.0 numbered) legal.1)
  where
    first : (o : Option Value) → writes s x l cell ≡ o → content (state_after (next s x) k).graph l cell ≡ content (next s x).graph l cell
        → (content (state_after (next s x) k).graph l cell ≡ content s.graph l cell) ⊎ IsWrittenIn s (x ∷ k) l cell (content (state_after (next s x) k).graph l cell)
    first None at stays = inl (stays ∙ (cell_next s l cell numbered x legal.0 ∙ ap (λ o. unwrap_or o (content s.graph l cell)) at))
    first (Some v) at stays =
        let here : content (state_after (next s x) k).graph l cell ≡ v = stays ∙ (cell_next s l cell numbered x legal.0 ∙ ap (λ o. unwrap_or o (content s.graph l cell)) at) in
        inr (record { before = []; entry = x; after = k; splits = refl; writes = at ∙ ap Some (sym here) })

pub seen_law : WritesAreSeen
seen_law z h k e l cell v legal wrote =
    let s : State = state_after (opening z) h in
    let rest = legal_rest (opening z) h (e ∷ k) legal in
    let numbered : IsNumbered s = numbered_after (opening z) h (legal_first (opening z) h (e ∷ k) legal) (numbered_opening z) in
    let here : content (next s e).graph l cell ≡ v = cell_next s l cell numbered e rest.0 ∙ ap (λ o. unwrap_or o (content s.graph l cell)) wrote in
    ⊎_elim (λ stays. inl (stays ∙ here)) (λ w. inr w) (stays_or_written (next s e) k l cell (numbered_next s e rest.0 numbered) rest.1)
