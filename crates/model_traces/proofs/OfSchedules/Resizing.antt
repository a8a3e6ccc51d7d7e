-- No entry's effect or reply depends on the sizes of the heap.
use Rattle.std.proofs.Common.{◌≡◌, ℕ, Bool, true, false, cond, is_some, List, [], ◌∷◌, ◌++◌, flat_map, fold, length, replicate, slice_get, Option, Some, None, refl, sym, ap, ◌∙◌, if◌then◌else◌}
use Rattle.std.specs.Prelude.{slice_set, slice_index_or, codes, decimal}
use Rattle.std.specs.List.{range_with_len}
use Rattle.model_core.specs.declared.label.Label.{Label}
use Rattle.model_core.specs.declared.command.Command.{Command}
use Rattle.model_core.specs.declared.command.Command.TheVariants.{PutInt, Copy, Forget, Alloc, AllocMaj, Load, Store, Raw as NewRaw, Cas, Ephe as NewEphe, SetKey, UnsetKey, GetKey, CheckKey, SetData, UnsetData, GetData, CheckData, Finalise, FinaliseLast, Poll, Minor, Major, FullMajor, Spawn, Argument, PutResult, Join}
use Rattle.model_core.specs.declared.entry.Entry.{Entry}
use Rattle.model_core.specs.declared.entry.Entry.TheVariants.{Command as CommandOf, End, Cut, Queue, Seal, Wipe, Last as LastOf, Collected, Done as DoneOf, Ran}
use Rattle.model_core.specs.declared.graph.Value.{Value}
use Rattle.model_core.specs.declared.graph.Value.TheVariants.{Int, Block, Nothing}
use Rattle.model_core.specs.declared.graph.Node.{Node}
use Rattle.model_core.specs.declared.graph.Node.TheVariants.{Plain, Raw, Ephe}
use Rattle.model_core.specs.declared.reply.Reply.{Reply}
use Rattle.model_core.specs.declared.reply.Applied.{Applied}
use Rattle.model_core.specs.declared.reply.Applied.TheVariants.{Replied}
use Rattle.model_core.specs.declared.state.Pending.{Pending}
use Rattle.model_core.specs.declared.state.Pending.TheVariants.{Fin, Last as LastPending}
use Rattle.model_core.specs.declared.state.Sizes.{Sizes}
use Rattle.model_core.specs.declared.state.State.{State}
use Rattle.model_core.specs.Graph.{label_of, node_at}
use Rattle.model_core.specs.Domains.{domain_at, label_in, opening, opening_domain, register, with_block}
use Rattle.model_core.specs.Commands.{Outcome, after_command, at_ephe, at_field, block_in, command_outcome, datum_set, datum_stored, done_with, exchanged, finalised, finalised_last, in_bounds, is_full_value, key_set, key_stored, key_value, loaded, outcome, read_into, same_value, stored, tells, written_over, written_where}
use Rattle.model_core.specs.Entries.{after_run, keys_at, next, reply, wiped, with_taken, with_wiped}
use Rattle.model_core.specs.History.{is_entry_of, replies, replies_from, reply_list, state_after}
use Rattle.model_core.specs.Output.{line, output, printed, section_text}
use Rattle.model_traces.specs.declared.schedules.items.Item.{Item}
use Rattle.model_traces.specs.declared.schedules.items.Item.TheVariants.{Turn, Collect}
use Rattle.model_traces.specs.Schedules.Scheduled.{Played, all_ended, all_lasts, all_queued, all_wiped, begun, behind, complete, domains_of, left_of, next_entries, played, rounds_of, scheduled, take_item, take_round, take_rounds, take_turn, turn_on, with_entries, with_next}
use Rattle.model_traces.specs.Schedules.Sizes.{SizesLaw}

-- the state of a heap of other sizes
abbrev resized : Sizes → State → State
resized z s = record s { sizes = z }

abbrev resized_outcome : Sizes → Outcome → Outcome
resized_outcome z o = record { reply = o.reply; state = resized z o.state }

module _ (z : Sizes) (s : State) where
  bounds : {A : Type 0} (o : Option A) (f g : A → Outcome) → ((a : A) → f a ≡ resized_outcome z (g a)) → in_bounds (resized z s) o f ≡ resized_outcome z (in_bounds s o g)
  bounds None f g each = refl
  bounds (Some a) f g each = each a

  told : (b : Bool) → tells (resized z s) b ≡ resized_outcome z (tells s b)
  told true = refl
  told false = refl

  at_field_is : (i : ℕ) (b : Option (Label × Node)) (v : Value) (f g : Label → Node → Value → Outcome) → ((l : Label) (n : Node) (held : Value) → f l n held ≡ resized_outcome z (g l n held)) → at_field (resized z s) i b v f ≡ resized_outcome z (at_field s i b v g)
  at_field_is i None v f g each = refl
  at_field_is i (Some (l, Ephe keys datum)) v f g each = refl
  at_field_is i (Some (l, Plain tag fields)) Nothing f g each = refl
  at_field_is i (Some (l, Plain tag fields)) (Int n) f g each = bounds (slice_get fields i) _ _ (λ held. each l _ held)
  at_field_is i (Some (l, Plain tag fields)) (Block k) f g each = bounds (slice_get fields i) _ _ (λ held. each l _ held)
  at_field_is i (Some (l, Raw tag fields)) (Int n) f g each = bounds (slice_get fields i) _ _ (λ held. each l _ held)
  at_field_is i (Some (l, Raw tag fields)) (Block k) f g each = refl
  at_field_is i (Some (l, Raw tag fields)) Nothing f g each = refl

  loaded_is : (d dst i : ℕ) (b : Option (Label × Node)) → loaded (resized z s) d dst i b ≡ resized_outcome z (loaded s d dst i b)
  loaded_is d dst i (Some (l, Plain tag fields)) = bounds (slice_get fields i) _ _ (λ v. refl)
  loaded_is d dst i (Some (l, Raw tag fields)) = bounds (slice_get fields i) _ _ (λ v. refl)
  loaded_is d dst i (Some (l, Ephe keys datum)) = refl
  loaded_is d dst i None = refl

  where_is : (l : Label) (n : Node) (b : Bool) → written_where (resized z s) l n b ≡ resized_outcome z (written_where s l n b)
  where_is l n true = refl
  where_is l n false = refl

  exchanged_is : (i : ℕ) (b : Option (Label × Node)) (expected v : Value) → exchanged (resized z s) i b expected v ≡ resized_outcome z (exchanged s i b expected v)
  exchanged_is i b Nothing v = refl
  exchanged_is i b (Int n) v = at_field_is i b v _ _ (λ l m held. where_is l m (same_value held (Int n)))
  exchanged_is i b (Block k) v = at_field_is i b v _ _ (λ l m held. where_is l m (same_value held (Block k)))

  at_ephe_is : (b : Option (Label × Node)) (f g : Label → List (Option Label) → Value → Outcome) → ((l : Label) (keys : List (Option Label)) (datum : Value) → f l keys datum ≡ resized_outcome z (g l keys datum)) → at_ephe (resized z s) b f ≡ resized_outcome z (at_ephe s b g)
  at_ephe_is (Some (l, Ephe keys datum)) f g each = each l keys datum
  at_ephe_is (Some (l, Plain tag fields)) f g each = refl
  at_ephe_is (Some (l, Raw tag fields)) f g each = refl
  at_ephe_is None f g each = refl

  key_set_is : (i : ℕ) (key : Option Label) (l : Label) (keys : List (Option Label)) (datum : Value) → key_set (resized z s) i key l keys datum ≡ resized_outcome z (key_set s i key l keys datum)
  key_set_is i key l keys datum = bounds (slice_get keys i) _ _ (λ k. refl)

  key_stored_is : (i : ℕ) (key : Option Label) (b : Option (Label × Node)) → key_stored (resized z s) i key b ≡ resized_outcome z (key_stored s i key b)
  key_stored_is i None b = refl
  key_stored_is i (Some k) b = at_ephe_is b _ _ (key_set_is i (Some k))

  datum_stored_is : (b : Option (Label × Node)) (v : Value) → datum_stored (resized z s) b v ≡ resized_outcome z (datum_stored s b v)
  datum_stored_is b Nothing = refl
  datum_stored_is b (Int n) = at_ephe_is b _ _ (λ l keys datum. refl)
  datum_stored_is b (Block k) = at_ephe_is b _ _ (λ l keys datum. refl)

  finalised_is : (d number dst : ℕ) (o : Option Label) → finalised (resized z s) d number dst o ≡ resized_outcome z (finalised s d number dst o)
  finalised_is d number dst None = refl
  finalised_is d number dst (Some l) = refl

  finalised_last_is : (d number : ℕ) (o : Option Label) → finalised_last (resized z s) d number o ≡ resized_outcome z (finalised_last s d number o)
  finalised_last_is d number None = refl
  finalised_last_is d number (Some l) = refl

  outcome_is : (d : ℕ) (c : Command) → outcome (resized z s) d c ≡ resized_outcome z (outcome s d c)
  outcome_is d (PutInt dst value) = refl
  outcome_is d (Copy dst src) = refl
  outcome_is d (Forget dst) = refl
  outcome_is d (Alloc dst tag fields) = refl
  outcome_is d (AllocMaj dst tag fields) = refl
  outcome_is d (Load dst src index) = loaded_is d dst index (block_in s d src)
  outcome_is d (Store block index item) = at_field_is index (block_in s d block) (register s d item) _ _ (λ l n held. refl)
  outcome_is d (NewRaw dst tag fields) = refl
  outcome_is d (Cas block index expected item) = exchanged_is index (block_in s d block) (register s d expected) (register s d item)
  outcome_is d (NewEphe dst keys) = refl
  outcome_is d (SetKey ephe index item) = key_stored_is index (label_in s d item) (block_in s d ephe)
  outcome_is d (UnsetKey ephe index) = at_ephe_is (block_in s d ephe) _ _ (key_set_is index None)
  outcome_is d (GetKey dst ephe index) = at_ephe_is (block_in s d ephe) _ _ (λ l keys datum. bounds (slice_get keys index) _ _ (λ k. refl))
  outcome_is d (CheckKey ephe index) = at_ephe_is (block_in s d ephe) _ _ (λ l keys datum. bounds (slice_get keys index) _ _ (λ k. told (is_some k)))
  outcome_is d (SetData ephe item) = datum_stored_is (block_in s d ephe) (register s d item)
  outcome_is d (UnsetData ephe) = at_ephe_is (block_in s d ephe) _ _ (λ l keys datum. refl)
  outcome_is d (GetData dst ephe) = at_ephe_is (block_in s d ephe) _ _ (λ l keys datum. refl)
  outcome_is d (CheckData ephe) = at_ephe_is (block_in s d ephe) _ _ (λ l keys datum. told (is_full_value datum))
  outcome_is d (Finalise item number dst) = finalised_is d number dst (label_in s d item)
  outcome_is d (FinaliseLast item number) = finalised_last_is d number (label_in s d item)
  outcome_is d Poll = refl
  outcome_is d Minor = refl
  outcome_is d Major = refl
  outcome_is d FullMajor = refl
  outcome_is d (Spawn section item) = refl
  outcome_is d (Argument dst) = refl
  outcome_is d (PutResult item) = refl
  outcome_is d (Join dst section) = refl

  command_is : (d : ℕ) (c : Command) (full : Bool) → command_outcome (resized z s) d c full ≡ resized_outcome z (command_outcome s d c full)
  command_is d c true = refl
  command_is d c false = outcome_is d c

  wiped_is : (l : Label) (o : Option Node) → with_wiped (resized z s) l o ≡ resized z (with_wiped s l o)
  wiped_is l None = refl
  wiped_is l (Some n) = refl

  ran_is : (d : ℕ) (q : List Pending) → after_run (resized z s) d q ≡ resized z (after_run s d q)
  ran_is d [] = refl
  ran_is d (Fin number l r ∷ rest) = refl
  ran_is d (LastPending number ∷ rest) = refl

  next_is : (e : Entry) → next (resized z s) e ≡ resized z (next s e)
  next_is (CommandOf d c full) = ap (λ (o : Outcome). after_command o.state d) (command_is d c full)
  next_is (End d) = refl
  next_is Cut = refl
  next_is (Queue d places) = refl
  next_is Seal = refl
  next_is (Wipe l keys) = ap (λ (t : State). with_taken t (keys_at keys (node_at s.graph l))) (wiped_is l (wiped keys (node_at s.graph l)))
  next_is (LastOf d place) = refl
  next_is Collected = refl
  next_is DoneOf = refl
  next_is (Ran d) = ran_is d (domain_at s d).queue

  reply_is : (e : Entry) → reply (resized z s) e ≡ reply s e
  reply_is (CommandOf d c full) = ap (λ (o : Outcome). Replied o.reply) (command_is d c full)
  reply_is (End d) = refl
  reply_is Cut = refl
  reply_is (Queue d places) = refl
  reply_is Seal = refl
  reply_is (Wipe l keys) = refl
  reply_is (LastOf d place) = refl
  reply_is Collected = refl
  reply_is DoneOf = refl
  reply_is (Ran d) = refl

after_is : (z : Sizes) (s : State) (h : List Entry) → state_after (resized z s) h ≡ resized z (state_after s h)
after_is z s [] = refl
after_is z s (e ∷ h) = ap (λ (t : State). state_after t h) (next_is z s e) ∙ after_is z (next s e) h

replies_is : (z : Sizes) (s : State) (h : List Entry) (d : ℕ) → replies_from (resized z s) h d ≡ replies_from s h d
replies_is z s [] d = refl
replies_is z s (e ∷ h) d =
    ap (λ (a : Applied). cond (is_entry_of d e) (reply_list a) [] ++ replies_from (next (resized z s) e) h d) (reply_is z s e)
    ∙ ap (λ (rs : List Reply). cond (is_entry_of d e) (reply_list (reply s e)) [] ++ rs) (ap (λ (t : State). replies_from t h d) (next_is z s e) ∙ replies_is z (next s e) h d)

-- a complete collection
complete_is : (z : Sizes) (s : State) (answered : List Entry) → complete (resized z s) answered ≡ complete s answered
complete_is z s answered =
    let q : List Entry = all_queued (next s Cut) in
    let u : State = state_after (next s Cut) q in
    let w : List Entry = all_wiped (next u Seal) in
    ap (λ (t : State). Cut ∷ q ++ Seal ∷ all_wiped (next t Seal) ++ all_lasts (state_after (next t Seal) (all_wiped (next t Seal))) ++ Collected ∷ answered ++ DoneOf ∷ []) (after_is z (next s Cut) q)
    ∙ ap (λ (t : State). Cut ∷ q ++ Seal ∷ w ++ all_lasts t ++ Collected ∷ answered ++ DoneOf ∷ []) (after_is z (next u Seal) w)

abbrev resized_run : Sizes → Played → Played
resized_run z p = record p { state = resized z p.state }

module _ (z : Sizes) where
  entries_is : (p : Played) (es : List Entry) → with_entries (resized_run z p) es ≡ resized_run z (with_entries p es)
  entries_is p es = ap (λ (t : State). record p { state = t; history = p.history ++ es }) (after_is z p.state es)

  next_entries_is : (s : State) (d : ℕ) (cs : List Command) → next_entries (resized z s) d cs ≡ next_entries s d cs
  next_entries_is s d [] = refl
  next_entries_is s d (FullMajor ∷ cs) = complete_is z s _
  next_entries_is s d (PutInt dst value ∷ cs) = refl
  next_entries_is s d (Copy dst src ∷ cs) = refl
  next_entries_is s d (Forget dst ∷ cs) = refl
  next_entries_is s d (Alloc dst tag fields ∷ cs) = refl
  next_entries_is s d (AllocMaj dst tag fields ∷ cs) = refl
  next_entries_is s d (Load dst src index ∷ cs) = refl
  next_entries_is s d (Store block index item ∷ cs) = refl
  next_entries_is s d (NewRaw dst tag fields ∷ cs) = refl
  next_entries_is s d (Cas block index expected item ∷ cs) = refl
  next_entries_is s d (NewEphe dst keys ∷ cs) = refl
  next_entries_is s d (SetKey ephe index item ∷ cs) = refl
  next_entries_is s d (UnsetKey ephe index ∷ cs) = refl
  next_entries_is s d (GetKey dst ephe index ∷ cs) = refl
  next_entries_is s d (CheckKey ephe index ∷ cs) = refl
  next_entries_is s d (SetData ephe item ∷ cs) = refl
  next_entries_is s d (UnsetData ephe ∷ cs) = refl
  next_entries_is s d (GetData dst ephe ∷ cs) = refl
  next_entries_is s d (CheckData ephe ∷ cs) = refl
  next_entries_is s d (Finalise item number dst ∷ cs) = refl
  next_entries_is s d (FinaliseLast item number ∷ cs) = refl
  next_entries_is s d (Poll ∷ cs) = refl
  next_entries_is s d (Minor ∷ cs) = refl
  next_entries_is s d (Major ∷ cs) = refl
  next_entries_is s d (Spawn section item ∷ cs) = refl
  next_entries_is s d (Argument dst ∷ cs) = refl
  next_entries_is s d (PutResult item ∷ cs) = refl
  next_entries_is s d (Join dst section ∷ cs) = refl

  with_next_is : (p : Played) (d : ℕ) → with_next (resized_run z p) d ≡ resized_run z (with_next p d)
  with_next_is p d =
      let rest : List (List Command) = slice_set p.left d (behind (left_of p d)) in
      ap (λ (es : List Entry). record (with_entries (resized_run z p) es) { left = rest }) (next_entries_is p.state d (left_of p d))
      ∙ ap (λ (q : Played). record q { left = rest }) (entries_is p (next_entries p.state d (left_of p d)))

  turn_on_is : (p : Played) (d : ℕ) (b : Bool) → turn_on (resized_run z p) d b ≡ resized_run z (turn_on p d b)
  turn_on_is p d true = refl
  turn_on_is p d false =
      let own : List Entry = replicate (length (domain_at p.state d).queue) (Ran d) in
      ap (λ (q : Played). with_next q d) (entries_is p own) ∙ with_next_is (with_entries p own) d

  turn_is : (p : Played) (d : ℕ) → take_turn (resized_run z p) d ≡ resized_run z (take_turn p d)
  turn_is p d = turn_on_is p d (domain_at p.state d).ended

  collect_is : (p : Played) (b : Bool) → (if b then resized_run z p else with_entries (resized_run z p) (complete (resized z p.state) [])) ≡ resized_run z (if b then p else with_entries p (complete p.state []))
  collect_is p true = refl
  collect_is p false = ap (with_entries (resized_run z p)) (complete_is z p.state []) ∙ entries_is p (complete p.state [])

  item_is : (p : Played) (i : Item) → take_item (resized_run z p) i ≡ resized_run z (take_item p i)
  item_is p (Turn d) = turn_is p d
  item_is p Collect = collect_is p (all_ended p.state)

  fold_is : {A : Type 0} (f : Played → A → Played) → ((p : Played) (a : A) → f (resized_run z p) a ≡ resized_run z (f p a)) → (p : Played) (xs : List A) → fold f (resized_run z p) xs ≡ resized_run z (fold f p xs)
  fold_is f each p [] = refl
  fold_is f each p (x ∷ xs) = ap (λ (q : Played). fold f q xs) (each p x) ∙ fold_is f each (f p x) xs

  round_is : (p : Played) → take_round (resized_run z p) ≡ resized_run z (take_round p)
  round_is p = fold_is take_turn turn_is p (domains_of p.state)

  rounds_is : (n : ℕ) (p : Played) → take_rounds n (resized_run z p) ≡ resized_run z (take_rounds n p)
  rounds_is n p = fold_is (λ q d. take_round q) (λ q d. round_is q) p (range_with_len 0 n)

-- the start depends on the number of domains alone
opening_is : (y z : Sizes) → y.domains ≡ z.domains → opening y ≡ resized y (opening z)
opening_is y z same = ap (λ (n : ℕ). record (opening y) { domains = replicate n opening_domain; cut = replicate n [] }) same

pub sizes_law : SizesLaw
sizes_law y z script items same =
    let start : begun y script ≡ resized_run y (begun z script) = ap (λ (s : State). record (begun y script) { state = s }) (opening_is y z same) in
    let rounds : ℕ = rounds_of script in
    let all : played y script items ≡ resized_run y (played z script items) =
    ap (λ (p : Played). take_rounds rounds (fold take_item p items)) start
    ∙ (ap (take_rounds rounds) (fold_is y take_item (item_is y) (begun z script) items) ∙ rounds_is y rounds (fold take_item (begun z script) items)) in
    let history : scheduled y script items ≡ scheduled z script items = ap (λ (p : Played). p.history) all in
    let h : List Entry = scheduled z script items in
    let replied : (d : ℕ) → replies y h d ≡ replies z h d = λ d. ap (λ (s : State). replies_from s h d) (opening_is y z same) ∙ replies_is y (opening z) h d in
    let text : output y h ≡ output z h = sections y z h replied (range_with_len 0 z.domains) (range_with_len 0 y.domains) (ap (range_with_len 0) same) in
    (history, ap (output y) history ∙ text)
  where
    sections : (y z : Sizes) (h : List Entry) → ((d : ℕ) → replies y h d ≡ replies z h d) → (ds es : List ℕ) → es ≡ ds → flat_map (section_text y h) es ≡ flat_map (section_text z h) ds
    sections y z h each ds es same = ap (flat_map (section_text y h)) same ∙ go ds
      where
        go : (ds : List ℕ) → flat_map (section_text y h) ds ≡ flat_map (section_text z h) ds
        go [] = refl
        go (d ∷ ds) =
            ap (λ (rs : List Reply). (line (codes "domain " ++ decimal d) ++ printed rs) ++ flat_map (section_text y h) ds) (each d)
            ∙ ap (λ (more : List ℕ). section_text z h d ++ more) (go ds)
