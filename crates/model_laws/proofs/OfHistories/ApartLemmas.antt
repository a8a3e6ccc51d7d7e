-- What no domain, and no block that domains may come to, names stays so: each entry keeps a set of labels closed that domains may come to.
use Rattle.std.proofs.Common.{◌≡◌, ◌≢◌, ◌⊎◌, inl, inr, ⊎_elim, ℕ, ◌+◌, Bool, true, false, cond, ◌==◌, is_some, IsTrue, List, [], ◌∷◌, ◌++◌, map, reverse, filter_map, replicate, slice_get, get_or, set, pos, option_map, option_to_list, unwrap_or, length, Option, Some, None, refl, ap, sym, ◌∙◌, subst}
use Rattle.model_core.specs.declared.label.Label.{Label}
use Rattle.model_core.specs.declared.command.Command.{Command}
use Rattle.model_core.specs.declared.command.Command.TheVariants.{PutInt, Copy, Forget, Alloc, AllocMaj, Load, Store, Raw as NewRaw, Cas, Ephe as NewEphe, SetKey, UnsetKey, GetKey, CheckKey, SetData, UnsetData, GetData, CheckData, Finalise, FinaliseLast, FullMajor}
use Rattle.model_core.specs.declared.entry.Entry.{Entry}
use Rattle.model_core.specs.declared.entry.Entry.TheVariants.{Command as CommandOf, End, Cut, Queue, Seal, Wipe, Last as LastOf, Collected, Done, Ran}
use Rattle.model_core.specs.declared.reply.Reply.{Reply}
use Rattle.model_core.specs.declared.reply.Reply.TheVariants.{Done as Ok, Block as BlockReply, BadType, BadIndex, Yes, No}
use Rattle.model_core.specs.declared.reply.Applied.TheVariants.{Replied}
use Rattle.model_core.specs.declared.graph.Value.{Value}
use Rattle.model_core.specs.declared.graph.Value.TheVariants.{Int, Block, Nothing}
use Rattle.model_core.specs.declared.graph.Node.{Node}
use Rattle.model_core.specs.declared.graph.Node.TheVariants.{Plain, Raw, Ephe}
use Rattle.model_core.specs.declared.state.Finaliser.{Finaliser}
use Rattle.model_core.specs.declared.state.LastFinaliser.{LastFinaliser}
use Rattle.model_core.specs.declared.state.Pending.{Pending}
use Rattle.model_core.specs.declared.state.Pending.TheVariants.{Fin, Last}
use Rattle.model_core.specs.declared.state.DomainState.{DomainState}
use Rattle.model_core.specs.declared.state.State.{State}
use Rattle.model_core.specs.Graph.{Graph, same_label, labels, has_label, label_of, node_at}
use Rattle.model_core.specs.Domains.{domain_at, with_domain, with_register, with_block, no_domain, register, label_in, pending_label}
use Rattle.model_core.specs.Commands.{Outcome, only_replies, done_with, read_into, shown, tells, in_bounds, loaded, at_field, written_over, written_where, same_value, exchanged, at_ephe, key_value, key_set, key_stored, datum_set, datum_stored, is_full_value, allocated, finalised, finalised_last, new_plain, new_raw, block_in, outcome, live_reply, after_command}
use Rattle.model_core.specs.Entries.{Allowed, at_places, with_last_queued, with_finals_open, with_lasts_open, freshened, wiped, with_wiped, without_first, run_reply, after_run, next, reply}
use Rattle.model_core.specs.History.{state_after, LegalFrom}
use Rattle.model_core.specs.WellFormed.{HaveNodes, IsDomainNamed, IsNumbered}
use Rattle.model_core.proofs.Graphs.GraphLemmas.{same_label-true, same_label-false, same_label_refl}
use Rattle.model_core.proofs.Graphs.GraphStepLemmas.{labels_stay_law}
use Rattle.model_core.proofs.Graphs.NamedLemmas.{have_none, have_cons, have_head, have_rest, have_option, have_set, have_at, have_replicate, have_filter_map_append, join_named, remove_named, without_named, places_named, queued_finals_named, queued_lasts_named}
use Rattle.model_core.proofs.Reach.ReachLemmas.{or_cases, or_left, has-append_cases, has-append_left, has-append_right, never_true}
use Rattle.model_core.proofs.Commands.MoveLemmas.{held_block}
use Rattle.model_core.proofs.Histories.NumberLemmas.{next_label-new, node_at-no_label, numbered_next}
use Rattle.model_core.proofs.Histories.WellFormedLemmas.{each_domain, mapped_domain, labels-append}
use Rattle.model_laws.specs.Histories.Cells.{Cell, Field, Key, Datum, initial, content, to_field, to_key, to_datum, command_writes, wipe_writes, writes}
use Rattle.model_laws.specs.Histories.Lost.{names, IsNeverSeen}
use Rattle.model_laws.proofs.OfHistories.CellLemmas.{held, content_is, content_none, content_grown, plain_initial, raw_initial, ephe_initial, cell_next}
use Rattle.model_laws.proofs.OfHistories.SplitLemmas.{legal_first, legal_rest}
use Rattle.model_core.proofs.Commands.OutcomeLemmas.{bounds_each, ephe_each, tells_each}

-- the labels of a graph hold all that the domains name, and all that the blocks with these labels name
pub record IsApart (s : State) (safe : Graph) : Type 0 where
  pub domains : (d : ℕ) → IsDomainNamed safe (domain_at s d)
  pub cells : (x : Label) (cell : Cell) (y : Label) → IsTrue (has_label (labels safe) x) → content s.graph x cell ≡ Block y → IsTrue (has_label (labels safe) y)

-- a domain with other numbers names the same
same_names : (g : Graph) (x y : DomainState) → x.registers ≡ y.registers → x.finals ≡ y.finals → x.lasts ≡ y.lasts → x.queue ≡ y.queue → IsDomainNamed g x → IsDomainNamed g y
same_names g x y r f l q named = record {
  registers = subst (λ z. HaveNodes g (filter_map label_of z)) r named.registers;
  finals = subst (λ (z : List Finaliser). HaveNodes g (map (λ f. f.label) z)) f named.finals;
  lasts = subst (λ (z : List LastFinaliser). HaveNodes g (map (λ f. f.label) z)) l named.lasts;
  queue = subst (λ z. HaveNodes g (filter_map pending_label z)) q named.queue;
}

no_names : (g : Graph) → IsDomainNamed g no_domain
no_names g = record { registers = have_none g; finals = have_none g; lasts = have_none g; queue = have_none g }

-- the value that a write writes
field_value : (i : ℕ) (u v : Value) (cell : Cell) → to_field i u cell ≡ Some v → u ≡ v
field_value i u v (Field j) e = go (i == j) e
  where
    go : (b : Bool) → cond b (Some u) None ≡ Some v → u ≡ v
    go true at = cc
    go false at = cc
field_value i u v (Key j) e = cc
field_value i u v Datum e = cc

key_written : (i : ℕ) (u v : Value) (cell : Cell) → to_key i u cell ≡ Some v → u ≡ v
key_written i u v (Key j) e = go (i == j) e
  where
    go : (b : Bool) → cond b (Some u) None ≡ Some v → u ≡ v
    go true at = cc
    go false at = cc
key_written i u v (Field j) e = cc
key_written i u v Datum e = cc

datum_written : (u v : Value) (cell : Cell) → to_datum u cell ≡ Some v → u ≡ v
datum_written u v Datum e = cc
datum_written u v (Field j) e = cc
datum_written u v (Key j) e = cc

pub wipe_written : (places : List ℕ) (v : Value) (cell : Cell) → wipe_writes places cell ≡ Some v → Nothing ≡ v
wipe_written places v (Field j) e = cc
wipe_written places v Datum e = cc
wipe_written places v (Key j) e = go _ e
  where
    go : (b : Bool) → cond b (Some Nothing) None ≡ Some v → Nothing ≡ v
    go true at = cc
    go false at = cc

-- whether a command makes a block
abbrev makes : Command → Bool
makes (Alloc dst tag n) = true
makes (AllocMaj dst tag n) = true
makes (NewRaw dst tag n) = true
makes (NewEphe dst n) = true
makes _ = false

module _ (l : Label) (s : State) (safe : Graph) (apart : IsApart s safe) (lost : has_label (labels safe) l ≡ false) where
  -- a value that names a label of the set, or none
  abbrev Safe : Value → Type 0
  Safe v = HaveNodes safe (option_to_list (label_of v))

  never : IsTrue (has_label (labels safe) l) → ⊥
  never h = let clash : true ≡ false = sym h ∙ lost in cc

  safe_label : (k : Label) → HaveNodes safe (option_to_list (Some k)) → IsTrue (has_label (labels safe) k)
  safe_label k h = have_head safe k [] h

  register_safe : (d r : ℕ) → Safe (register s d r)
  register_safe d r = have_at safe label_of (domain_at s d).registers r Nothing (apart.domains d).registers (have_none safe)

  pub register_apart : (d r : ℕ) → register s d r ≢ Block l
  register_apart d r held = never (safe_label l (subst Safe held (register_safe d r)))

  label_safe : (d r : ℕ) (k : Label) → label_in s d r ≡ Some k → IsTrue (has_label (labels safe) k)
  label_safe d r k at = safe_label k (subst (λ (o : Option Label). HaveNodes safe (option_to_list o)) at (register_safe d r))

  cell_safe : (x : Label) (cell : Cell) (v : Value) → IsTrue (has_label (labels safe) x) → content s.graph x cell ≡ v → Safe v
  cell_safe x cell (Int z) there at = have_none safe
  cell_safe x cell Nothing there at = have_none safe
  cell_safe x cell (Block y) there at = have_cons safe y [] (apart.cells x cell y there at) (have_none safe)

  -- what a command leaves to the domains, and what it answers
  record Steps (o : Outcome) : Type 0 where
    named : (k : ℕ) → IsDomainNamed safe (domain_at o.state k)
    unseen : names l (Replied o.reply) ≡ false

  with_domain_named : (d : ℕ) (x : DomainState) → IsDomainNamed safe x → (k : ℕ) → IsDomainNamed safe (domain_at (with_domain s d x) k)
  with_domain_named d x named = each_domain (IsDomainNamed safe) s.domains d x named apart.domains

  with_register_named : (d r : ℕ) (v : Value) → Safe v → (k : ℕ) → IsDomainNamed safe (domain_at (with_register s d r v) k)
  with_register_named d r v is =
      let old = apart.domains d in
      with_domain_named d _ (record { registers = have_set safe label_of (domain_at s d).registers r v old.registers is; finals = old.finals; lasts = old.lasts; queue = old.queue })

  answers : (r : Reply) → names l (Replied r) ≡ false → Steps (only_replies s r)
  answers r other = record { named = apart.domains; unseen = other }

  shown_unseen : (v : Value) → Safe v → names l (Replied (shown v)) ≡ false
  shown_unseen (Int z) is = refl
  shown_unseen Nothing is = refl
  shown_unseen (Block y) is = same_label-false y l (λ here. never (subst (λ z. IsTrue (has_label (labels safe) z)) here (safe_label y is)))

  reads : (d dst : ℕ) (v : Value) → Safe v → Steps (read_into s d dst v)
  reads d dst v is = record { named = with_register_named d dst v is; unseen = shown_unseen v is }

  writes_block : (k : Label) (n : Node) → Steps (done_with (with_block s k n))
  writes_block k n = record { named = apart.domains; unseen = refl }

  within : {A : Type 0} (o : Option A) (f : A → Outcome) → ((a : A) → o ≡ Some a → Steps (f a)) → Steps (in_bounds s o f)
  within = bounds_each Steps s (answers BadIndex refl)

  told : (b : Bool) → Steps (tells s b)
  told = tells_each Steps s (answers Yes refl) (answers No refl)

  module _ (d r : ℕ) where
    block_safe : (k : Label) (n : Node) → block_in s d r ≡ Some (k, n) → IsTrue (has_label (labels safe) k)
    block_safe k n e = label_safe d r k (held_block s d r k n e).label

    cell_read : (k : Label) (n : Node) (cell : Cell) (v : Value) → block_in s d r ≡ Some (k, n) → content s.graph k cell ≡ v → Safe v
    cell_read k n cell v e at = cell_safe k cell v (block_safe k n e) at

    field_read : (dst index : ℕ) (b : Option (Label × Node)) → block_in s d r ≡ b → Steps (loaded s d dst index b)
    field_read dst index None e = answers BadType refl
    field_read dst index (Some (k, Ephe keys datum)) e = answers BadType refl
    field_read dst index (Some (k, Plain tag fields)) e = within (slice_get fields index) _ (λ v at. reads d dst v (cell_read k (Plain tag fields) (Field index) v e
        (content_is s.graph k (Plain tag fields) (Field index) (held_block s d r k _ e).node ∙ ap (λ o. unwrap_or o (Int (pos 0))) at)))
    field_read dst index (Some (k, Raw tag fields)) e = within (slice_get fields index) _ (λ v at. reads d dst v (cell_read k (Raw tag fields) (Field index) v e
        (content_is s.graph k (Raw tag fields) (Field index) (held_block s d r k _ e).node ∙ ap (λ o. unwrap_or o (Int (pos 0))) at)))

    at_keys : (f : Label → List (Option Label) → Value → Outcome) → ((k : Label) (keys : List (Option Label)) (datum : Value) → block_in s d r ≡ Some (k, Ephe keys datum) → Steps (f k keys datum))
        → Steps (at_ephe s (block_in s d r) f)
    at_keys = ephe_each Steps s (answers BadType refl) d r

    key_read : (dst index : ℕ) → Steps (outcome s d (GetKey dst r index))
    key_read dst index = at_keys _ (λ k keys datum e. within (slice_get keys index) _ (λ key at. reads d dst (key_value key) (cell_read k (Ephe keys datum) (Key index) (key_value key) e
        (content_is s.graph k (Ephe keys datum) (Key index) (held_block s d r k _ e).node ∙ ap (λ o. unwrap_or (option_map key_value o) Nothing) at))))

    datum_read : (dst : ℕ) → Steps (outcome s d (GetData dst r))
    datum_read dst = at_keys _ (λ k keys datum e. reads d dst datum (cell_read k (Ephe keys datum) Datum datum e (content_is s.graph k (Ephe keys datum) Datum (held_block s d r k _ e).node)))

    key_put : (index : ℕ) (key : Option Label) → Steps (at_ephe s (block_in s d r) (key_set s index key))
    key_put index key = at_keys _ (λ k keys datum e. within (slice_get keys index) _ (λ old at. writes_block k _))

    key_given : (index : ℕ) (o : Option Label) → Steps (key_stored s index o (block_in s d r))
    key_given index None = answers BadType refl
    key_given index (Some k) = key_put index (Some k)

    datum_put : (v : Value) → Steps (at_ephe s (block_in s d r) (datum_set s v))
    datum_put v = at_keys _ (λ k keys datum e. writes_block k _)

    datum_given : (v : Value) → Steps (datum_stored s (block_in s d r) v)
    datum_given Nothing = answers BadType refl
    datum_given (Int z) = datum_put (Int z)
    datum_given (Block b) = datum_put (Block b)

  field_put : (index : ℕ) (b : Option (Label × Node)) (v : Value) (f : Label → Node → Value → Outcome) → ((k : Label) (n : Node) (old : Value) → Steps (f k n old)) → Steps (at_field s index b v f)
  field_put index None v f each = answers BadType refl
  field_put index (Some (k, Ephe keys datum)) v f each = answers BadType refl
  field_put index (Some (k, Plain tag fields)) Nothing f each = answers BadType refl
  field_put index (Some (k, Plain tag fields)) (Int z) f each = within (slice_get fields index) _ (λ old at. each k _ old)
  field_put index (Some (k, Plain tag fields)) (Block b) f each = within (slice_get fields index) _ (λ old at. each k _ old)
  field_put index (Some (k, Raw tag fields)) Nothing f each = answers BadType refl
  field_put index (Some (k, Raw tag fields)) (Int z) f each = within (slice_get fields index) _ (λ old at. each k _ old)
  field_put index (Some (k, Raw tag fields)) (Block b) f each = answers BadType refl

  where_put : (k : Label) (n : Node) (b : Bool) → Steps (written_where s k n b)
  where_put k n true = record { named = apart.domains; unseen = refl }
  where_put k n false = answers No refl

  exchange : (index : ℕ) (b : Option (Label × Node)) (expected v : Value) → Steps (exchanged s index b expected v)
  exchange index b Nothing v = answers BadType refl
  exchange index b (Int z) v = field_put index b v _ (λ k n old. where_put k n (same_value old (Int z)))
  exchange index b (Block y) v = field_put index b v _ (λ k n old. where_put k n (same_value old (Block y)))

  final_put : (d number dst : ℕ) (o : Option Label) → HaveNodes safe (option_to_list o) → Steps (finalised s d number dst o)
  final_put d number dst None is = answers BadType refl
  final_put d number dst (Some k) is =
      let old = apart.domains d in
      let f : Finaliser = record { number = number; label = k; register = dst } in
      record {
        named = with_domain_named d _ (record {
          registers = old.registers;
          lasts = old.lasts;
          queue = old.queue;
          finals = join_named safe (λ (x : Finaliser). x.label) (domain_at s d).finals (f ∷ []) old.finals is;
        });
        unseen = refl;
      }

  last_put : (d number : ℕ) (o : Option Label) → HaveNodes safe (option_to_list o) → Steps (finalised_last s d number o)
  last_put d number None is = answers BadType refl
  last_put d number (Some k) is =
      let old = apart.domains d in
      let f : LastFinaliser = record { number = number; label = k } in
      record {
        named = with_domain_named d _ (record {
          registers = old.registers;
          finals = old.finals;
          queue = old.queue;
          lasts = join_named safe (λ (x : LastFinaliser). x.label) (domain_at s d).lasts (f ∷ []) old.lasts is;
        });
        unseen = refl;
      }

  -- each command that makes no block
  steps : (d : ℕ) (c : Command) → makes c ≡ false → Steps (outcome s d c)
  steps d (PutInt dst z) other = record { named = with_register_named d dst (Int z) (have_none safe); unseen = refl }
  steps d (Copy dst src) other = record { named = with_register_named d dst (register s d src) (register_safe d src); unseen = refl }
  steps d (Forget dst) other = record { named = with_register_named d dst Nothing (have_none safe); unseen = refl }
  steps d (Alloc dst tag n) other = cc
  steps d (AllocMaj dst tag n) other = cc
  steps d (NewRaw dst tag n) other = cc
  steps d (NewEphe dst n) other = cc
  steps d (Load dst src index) other = field_read d src dst index (block_in s d src) refl
  steps d (Store block index item) other = field_put index (block_in s d block) (register s d item) (written_over s) (λ k n old. writes_block k n)
  steps d (Cas block index expected item) other = exchange index (block_in s d block) (register s d expected) (register s d item)
  steps d (SetKey ephe index item) other = key_given d ephe index (label_in s d item)
  steps d (UnsetKey ephe index) other = key_put d ephe index None
  steps d (GetKey dst ephe index) other = key_read d ephe dst index
  steps d (CheckKey ephe index) other = at_keys d ephe _ (λ k keys datum e. within (slice_get keys index) _ (λ key at. told (is_some key)))
  steps d (SetData ephe item) other = datum_given d ephe (register s d item)
  steps d (UnsetData ephe) other = datum_put d ephe Nothing
  steps d (GetData dst ephe) other = datum_read d ephe dst
  steps d (CheckData ephe) other = at_keys d ephe _ (λ k keys datum e. told (is_full_value datum))
  steps d (Finalise item number dst) other = final_put d number dst (label_in s d item) (register_safe d item)
  steps d (FinaliseLast item number) other = last_put d number (label_in s d item) (register_safe d item)
  steps d FullMajor other = answers (live_reply s) refl
  steps d c other = answers Ok refl

  -- what an entry writes is safe
  command_safe : (d : ℕ) (c : Command) (cell : Cell) (v : Value) → command_writes s d c cell ≡ Some v → Safe v
  command_safe d (Store block index item) cell v e = subst Safe (field_value index (register s d item) v cell e) (register_safe d item)
  command_safe d (Cas block index expected item) cell v e = subst Safe (field_value index (register s d item) v cell e) (register_safe d item)
  command_safe d (SetKey ephe index item) cell v e = subst Safe (key_written index (register s d item) v cell e) (register_safe d item)
  command_safe d (UnsetKey ephe index) cell v e = subst Safe (key_written index Nothing v cell e) (have_none safe)
  command_safe d (SetData ephe item) cell v e = subst Safe (datum_written (register s d item) v cell e) (register_safe d item)
  command_safe d (UnsetData ephe) cell v e = subst Safe (datum_written Nothing v cell e) (have_none safe)
  command_safe d c cell v e = cc

  chosen : (b : Bool) (o : Option Value) (v : Value) → cond b o None ≡ Some v → o ≡ Some v
  chosen true o v e = e
  chosen false o v e = cc

  writes_safe : (e : Entry) (x : Label) (cell : Cell) (v : Value) → writes s e x cell ≡ Some v → Safe v
  writes_safe (CommandOf d c true) x cell v at = cc
  writes_safe (CommandOf d c false) x cell v at = command_safe d c cell v (chosen _ (command_writes s d c cell) v at)
  writes_safe (Wipe k places) x cell v at = subst Safe (wipe_written places v cell (chosen (same_label k x) (wipe_writes places cell) v at)) (have_none safe)
  writes_safe (End d) x cell v at = cc
  writes_safe Cut x cell v at = cc
  writes_safe (Queue d places) x cell v at = cc
  writes_safe Seal x cell v at = cc
  writes_safe (LastOf d place) x cell v at = cc
  writes_safe Collected x cell v at = cc
  writes_safe Done x cell v at = cc
  writes_safe (Ran d) x cell v at = cc

  -- so the cells of the blocks in the set go on holding what is in it
  cells_next : IsNumbered s → (e : Entry) → Allowed s e → (x : Label) (cell : Cell) (y : Label) → IsTrue (has_label (labels safe) x) → content (next s e).graph x cell ≡ Block y → IsTrue (has_label (labels safe) y)
  cells_next numbered e allowed x cell y there at = go (writes s e x cell) refl (sym (cell_next s x cell numbered e allowed) ∙ at)
    where
      go : (o : Option Value) → writes s e x cell ≡ o → unwrap_or o (content s.graph x cell) ≡ Block y → IsTrue (has_label (labels safe) y)
      go None w is = apart.cells x cell y there is
      go (Some v) w is = safe_label y (subst Safe is (writes_safe e x cell v w))

-- a label that no state names to which domains may come
pub record IsOut (l : Label) (s : State) : Type 0 where
  pub safe : Graph
  pub apart : IsApart s safe
  pub lost : has_label (labels safe) l ≡ false

nothing_new : (cell : Cell) (y : Label) → initial cell ≡ Block y → ⊥
nothing_new (Field i) y e = cc
nothing_new (Key i) y e = cc
nothing_new Datum y e = cc

module _ (l : Label) (s : State) (numbered : IsNumbered s) (there : IsTrue (has_label (labels s.graph) l)) (out : IsOut l s) where
  abbrev old : Graph
  old = out.safe

  abbrev Named : State → Type 0
  Named t = (k : ℕ) → IsDomainNamed old (domain_at t k)

  -- a new block
  module _ (d dst : ℕ) (n : Node) (holds : (cell : Cell) → held cell n ≡ initial cell) where
    abbrev new : Label
    new = record { domain = d; serial = (domain_at s d).serial + 1 }

    abbrev more : Graph
    more = old ++ (new, n) ∷ []

    new_unknown : has_label (labels s.graph) new ≡ false
    new_unknown = next_label-new s numbered d

    new_differs : new ≢ l
    new_differs same = let clash : true ≡ false = sym there ∙ (ap (has_label (labels s.graph)) (sym same) ∙ new_unknown) in cc

    labels_more : labels more ≡ labels old ++ new ∷ []
    labels_more = labels-append old ((new, n) ∷ [])

    kept_label : (k : Label) → IsTrue (has_label (labels old) k) → IsTrue (has_label (labels more) k)
    kept_label k h = subst (λ z. IsTrue (has_label z k)) (sym labels_more) (has-append_left (labels old) (new ∷ []) k h)

    new_label : IsTrue (has_label (labels more) new)
    new_label = subst (λ z. IsTrue (has_label z new)) (sym labels_more) (has-append_right (labels old) (new ∷ []) new (or_left (same_label new new) false (same_label_refl new)))

    either_label : (k : Label) → IsTrue (has_label (labels more) k) → IsTrue (has_label (labels old) k) ⊎ (new ≡ k)
    either_label k h = ⊎_elim (λ a. inl a) (λ b. inr (⊎_elim (λ c. same_label-true new k c) (λ none. absurd (let clash : false ≡ true = none in cc)) (or_cases (same_label new k) false b)))
        (has-append_cases (labels old) (new ∷ []) k (subst (λ z. IsTrue (has_label z k)) labels_more h))

    lost_more : has_label (labels more) l ≡ false
    lost_more = never_true (has_label (labels more) l) (λ h. ⊎_elim (λ a. let clash : true ≡ false = sym a ∙ out.lost in cc) (λ b. new_differs b) (either_label l h))

    named_more : (x : DomainState) → IsDomainNamed old x → IsDomainNamed more x
    named_more x named = record {
      registers = λ k a. kept_label k (named.registers k a);
      finals = λ k a. kept_label k (named.finals k a);
      lasts = λ k a. kept_label k (named.lasts k a);
      queue = λ k a. kept_label k (named.queue k a);
    }

    made_domains : (k : ℕ) → IsDomainNamed more (domain_at (after_command (allocated s d dst n).state d) k)
    made_domains =
        let counted : DomainState = record (domain_at s d) { serial = (domain_at s d).serial + 1 } in
        let first : State = with_domain s d counted in
        let one : (k : ℕ) → IsDomainNamed more (domain_at first k) =
        λ k. named_more _ (each_domain (IsDomainNamed old) s.domains d counted (same_names old (domain_at s d) counted refl refl refl refl (out.apart.domains d)) out.apart.domains k) in
        let mine = one d in
        let holds_new : DomainState = record (domain_at first d) { registers = set (domain_at first d).registers dst (Block new) } in
        let named : IsDomainNamed more holds_new = record {
          registers = have_set more label_of (domain_at first d).registers dst (Block new) mine.registers (have_cons more new [] new_label (have_none more));
          finals = mine.finals;
          lasts = mine.lasts;
          queue = mine.queue;
        } in
        let two : (k : ℕ) → IsDomainNamed more (get_or (set first.domains d holds_new) k no_domain) = each_domain (IsDomainNamed more) first.domains d holds_new named one in
        each_domain (IsDomainNamed more) (set first.domains d holds_new) d _ (same_names more (get_or (set first.domains d holds_new) d no_domain) _ refl refl refl refl (two d)) two

    made_out : IsOut l (after_command (allocated s d dst n).state d)
    made_out = record {
      safe = more;
      lost = lost_more;
      apart = record {
        domains = made_domains;
        cells = λ x cell y inside at.
            let same : content (s.graph ++ (new, n) ∷ []) x cell ≡ content s.graph x cell = content_grown s.graph new x n cell (node_at-no_label s.graph new new_unknown) (holds cell) in
            let before : content s.graph x cell ≡ Block y = sym same ∙ at in
            ⊎_elim (λ a. kept_label y (out.apart.cells x cell y a before))
            (λ b. absurd (nothing_new cell y (sym (content_none s.graph new cell (node_at-no_label s.graph new new_unknown)) ∙ (ap (λ z. content s.graph z cell) b ∙ before))))
            (either_label x inside);
      };
    }

    made_unseen : names l (Replied (BlockReply new)) ≡ false
    made_unseen = same_label-false new l new_differs

  -- what an entry leaves, and what it answers
  abbrev Stepped : Entry → Type 0
  Stepped e = IsOut l (next s e) × (names l (reply s e) ≡ false)

  named_after : (t : State) (d : ℕ) → Named t → Named (after_command t d)
  named_after t d named = each_domain (IsDomainNamed old) t.domains d _ (same_names old (domain_at t d) _ refl refl refl refl (named d)) named

  kept_out : (e : Entry) → Allowed s e → Named (next s e) → IsOut l (next s e)
  kept_out e allowed named = record { safe = old; lost = out.lost; apart = record { domains = named; cells = cells_next l s old out.apart out.lost numbered e allowed } }

  unmaking : (d : ℕ) (c : Command) → Allowed s (CommandOf d c false) → makes c ≡ false → Stepped (CommandOf d c false)
  unmaking d c allowed other =
      let st = steps l s old out.apart out.lost d c other in
      (kept_out (CommandOf d c false) allowed (named_after (outcome s d c).state d st.named), st.unseen)

  commands_step : (d : ℕ) (c : Command) → Allowed s (CommandOf d c false) → Stepped (CommandOf d c false)
  commands_step d (Alloc dst tag n) allowed = (made_out d dst (new_plain tag n) (λ cell. plain_initial cell tag n), made_unseen d dst (new_plain tag n) (λ cell. plain_initial cell tag n))
  commands_step d (AllocMaj dst tag n) allowed = (made_out d dst (new_plain tag n) (λ cell. plain_initial cell tag n), made_unseen d dst (new_plain tag n) (λ cell. plain_initial cell tag n))
  commands_step d (NewRaw dst tag n) allowed = (made_out d dst (new_raw tag n) (λ cell. raw_initial cell tag n), made_unseen d dst (new_raw tag n) (λ cell. raw_initial cell tag n))
  commands_step d (NewEphe dst n) allowed = (made_out d dst (Ephe (replicate n None) Nothing) (λ cell. ephe_initial cell n), made_unseen d dst (Ephe (replicate n None) Nothing) (λ cell. ephe_initial cell n))
  commands_step d c allowed = unmaking d c allowed refl

  with_named : (d : ℕ) (x : DomainState) → IsDomainNamed old x → Named (with_domain s d x)
  with_named d x named = each_domain (IsDomainNamed old) s.domains d x named out.apart.domains

  mapped_named : (f : DomainState → DomainState) → ((x : DomainState) → IsDomainNamed old x → IsDomainNamed old (f x)) → (k : ℕ) → IsDomainNamed old (get_or (map f s.domains) k no_domain)
  mapped_named f step = mapped_domain (IsDomainNamed old) f s.domains (no_names old) step out.apart.domains

  wiped_named : (k : Label) (places : List ℕ) (o : Option Node) → Named (with_wiped s k (wiped places o))
  wiped_named k places None = out.apart.domains
  wiped_named k places (Some (Plain tag fields)) = out.apart.domains
  wiped_named k places (Some (Raw tag fields)) = out.apart.domains
  wiped_named k places (Some (Ephe keys datum)) = out.apart.domains

  popped_named : (d : ℕ) (p : Pending) (rest : List Pending) → HaveNodes old (filter_map pending_label (p ∷ rest)) → Named (with_domain s d (without_first (domain_at s d) rest))
  popped_named d p rest named =
      let mine = out.apart.domains d in
      with_named d _ (record { registers = mine.registers; finals = mine.finals; lasts = mine.lasts; queue = have_rest old (pending_label p) (filter_map pending_label rest) named })

  run_named : (d : ℕ) (queue : List Pending) → HaveNodes old (filter_map pending_label queue) → Named (after_run s d queue)
  run_named d [] named = out.apart.domains
  run_named d (Fin number k r ∷ rest) named =
      let first : State = with_domain s d (without_first (domain_at s d) rest) in
      let one : Named first = popped_named d (Fin number k r) rest named in
      let mine = one d in
      each_domain (IsDomainNamed old) first.domains d _ (record {
        registers = have_set old label_of (domain_at first d).registers r (Block k) mine.registers (have_option old (Some k) (filter_map pending_label rest) named);
        finals = mine.finals;
        lasts = mine.lasts;
        queue = mine.queue;
      }) one
  run_named d (Last number ∷ rest) named = popped_named d (Last number) rest named

  run_unseen : (queue : List Pending) → HaveNodes old (filter_map pending_label queue) → names l (run_reply queue) ≡ false
  run_unseen [] named = refl
  run_unseen (Fin number k r ∷ rest) named =
      same_label-false k l (λ same. let clash : true ≡ false = sym (subst (λ z. IsTrue (has_label (labels old) z)) same (have_head old k (filter_map pending_label rest) named)) ∙ out.lost in cc)
  run_unseen (Last number ∷ rest) named = refl

  -- each entry that is allowed leaves the label out, and doesn't name it
  pub out_next : (e : Entry) → Allowed s e → Stepped e
  out_next (CommandOf d c true) allowed = (kept_out (CommandOf d c true) allowed (named_after s d out.apart.domains), refl)
  out_next (CommandOf d c false) allowed = commands_step d c allowed
  out_next (End d) allowed = (
    kept_out (End d) allowed (with_named d _ (record {
      registers = have_replicate old label_of (length (domain_at s d).registers) Nothing refl;
      finals = have_none old;
      lasts = have_none old;
      queue = (out.apart.domains d).queue;
    })),
    refl,
  )
  out_next Cut allowed = (kept_out Cut allowed (mapped_named with_finals_open (λ x named. same_names old x _ refl refl refl refl named)), refl)
  out_next (Queue d places) allowed =
      let mine = out.apart.domains d in (
        kept_out (Queue d places) allowed (with_named d _ (record {
          registers = mine.registers;
          lasts = mine.lasts;
          finals = without_named old (λ (f : Finaliser). f.label) places (domain_at s d).finals mine.finals;
          queue = have_filter_map_append old pending_label (domain_at s d).queue _ mine.queue
              (queued_finals_named old _ (places_named old (λ (f : Finaliser). f.label) (reverse places) (domain_at s d).finals mine.finals));
        })),
        refl,
      )
  out_next Seal allowed = (kept_out Seal allowed (mapped_named with_lasts_open (λ x named. same_names old x _ refl refl refl refl named)), refl)
  out_next (Wipe k places) allowed = (kept_out (Wipe k places) allowed (wiped_named k places (node_at s.graph k)), refl)
  out_next (LastOf d place) allowed =
      let mine = out.apart.domains d in (
        kept_out (LastOf d place) allowed (with_named d (with_last_queued (domain_at s d) place) (record {
          registers = mine.registers;
          finals = mine.finals;
          lasts = remove_named old (λ (f : LastFinaliser). f.label) (domain_at s d).lasts place mine.lasts;
          queue = have_filter_map_append old pending_label (domain_at s d).queue _ mine.queue (queued_lasts_named old (at_places (place ∷ []) (domain_at s d).lasts));
        })),
        refl,
      )
  out_next Collected allowed = (kept_out Collected allowed (mapped_named freshened (λ x named. same_names old x _ refl refl refl refl named)), refl)
  out_next Done allowed = (kept_out Done allowed out.apart.domains, refl)
  out_next (Ran d) allowed = (kept_out (Ran d) allowed (run_named d (domain_at s d).queue (out.apart.domains d).queue), run_unseen (domain_at s d).queue (out.apart.domains d).queue)

-- what is known of a label that is out
pub record IsKnownOut (l : Label) (s : State) : Type 0 where
  pub numbered : IsNumbered s
  pub there : IsTrue (has_label (labels s.graph) l)
  pub out : IsOut l s

pub out_after : (l : Label) (s : State) (h : List Entry) → LegalFrom s h → IsKnownOut l s → IsKnownOut l (state_after s h)
out_after l s [] legal known = known
out_after l s (e ∷ h) legal known = out_after l (next s e) h legal.1 (record {
  numbered = numbered_next s e legal.0 known.numbered;
  there = labels_stay_law s e l known.there;
  out = (out_next l s known.numbered known.there known.out e legal.0).0;
})

-- so it is never seen again
pub never_seen : (l : Label) (s : State) (k : List Entry) → LegalFrom s k → IsKnownOut l s → IsNeverSeen s k l
never_seen l s k legal known = record {
  registers = λ a b split d r.
      let after = out_after l s a (legal_first s a b (subst (LegalFrom s) split legal)) known in
      register_apart l (state_after s a) after.out.safe after.out.apart after.out.lost d r;
  replies = λ a b e split.
      let whole : LegalFrom s (a ++ e ∷ b) = subst (LegalFrom s) split legal in
      let after = out_after l s a (legal_first s a (e ∷ b) whole) known in
      (out_next l (state_after s a) after.numbered after.there after.out e (legal_rest s a (e ∷ b) whole).0).1;
}
