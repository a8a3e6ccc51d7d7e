-- States that differ in nothing but what a collection sets anew, and what entries answer and leave in both.
use Rattle.std.proofs.Common.{◌≡◌, ℕ, zero, suc, ◌+◌, Bool, true, false, List, [], ◌∷◌, ◌++◌, map, reverse, length, get_or, remove, set, replicate, slice_get, option_and_then, Option, Some, None, refl, ap, sym, ◌∙◌, subst}
use Rattle.std.specs.Prelude.{is_some, filter_map, flat_map, sum_by}
use Rattle.model_core.specs.declared.label.Label.{Label}
use Rattle.model_core.specs.declared.command.Command as declared_command
use Rattle.model_core.specs.declared.command.Command.TheVariants.{PutInt, Copy, Forget, Alloc, AllocMaj, Load, Store, Raw as NewRaw, Cas, Ephe as NewEphe, SetKey, UnsetKey, GetKey, CheckKey, SetData, UnsetData, GetData, CheckData, Finalise, FinaliseLast, Poll, Minor, Major, FullMajor, Spawn, Argument, PutResult, Join}
use Rattle.model_core.specs.declared.entry.Entry.{Entry}
use Rattle.model_core.specs.declared.entry.Entry.TheVariants.{Command as CommandOf, End, Cut, Queue, Seal, Wipe, Last as LastOf, Collected, Done, Ran}
use Rattle.model_core.specs.declared.reply.Reply.{Reply}
use Rattle.model_core.specs.declared.reply.Reply.TheVariants.{Block as BlockReply, Live}
use Rattle.model_core.specs.declared.reply.Applied.TheVariants.{Replied}
use Rattle.model_core.specs.declared.graph.Value.{Value}
use Rattle.model_core.specs.declared.graph.Value.TheVariants.{Int, Block, Nothing}
use Rattle.model_core.specs.declared.graph.Node.{Node}
use Rattle.model_core.specs.declared.graph.Node.TheVariants.{Plain, Raw, Ephe}
use Rattle.model_core.specs.declared.state.Finaliser.{Finaliser}
use Rattle.model_core.specs.declared.state.LastFinaliser.{LastFinaliser}
use Rattle.model_core.specs.declared.state.Pending.{Pending}
use Rattle.model_core.specs.declared.state.Pending.TheVariants.{Fin, Last as LastPending}
use Rattle.model_core.specs.declared.state.DomainState.{DomainState}
use Rattle.model_core.specs.declared.state.State.{State}
use Rattle.model_core.specs.Graph.{Graph, label_of, node_at, with_node, block_at, words_at}
use Rattle.model_core.specs.Domains.{no_domain, domain_at, with_domain, register, with_register, label_in, with_block, queues, pending_label, reach}
use Rattle.model_core.specs.Reach.{reachable}
use Rattle.model_core.specs.Commands.{Outcome, after_command, allocated, at_ephe, at_field, block_in, command_outcome, datum_stored, done_with, exchanged, finalised, finalised_last, in_bounds, is_full_value, key_set, key_stored, key_value, live_reply, loaded, only_replies, outcome, read_into, same_value, tells, written_where}
use Rattle.model_core.specs.Entries.{after_run, at_places, next, queued_final, queued_last, reply, run_reply, wiped, with_wiped, with_last_queued, without_first, without_places}

-- two domains are one but for how far their registrations were open to a collection, and whether a complete one came since
pub record IsTwinDomain (x y : DomainState) : Type 0 where
  pub registers : y.registers ≡ x.registers
  pub serial : y.serial ≡ x.serial
  pub finals : y.finals ≡ x.finals
  pub lasts : y.lasts ≡ x.lasts
  pub queue : y.queue ≡ x.queue

twin_itself : (x : DomainState) → IsTwinDomain x x
twin_itself x = record { registers = refl; serial = refl; finals = refl; lasts = refl; queue = refl }

abbrev pub AreTwinDomains : List DomainState → List DomainState → Type 0
AreTwinDomains [] ys = ys ≡ []
AreTwinDomains (x ∷ xs) ys = (y : DomainState) × (rest : List DomainState) × (ys ≡ y ∷ rest) × IsTwinDomain x y × AreTwinDomains xs rest

twin_at : (xs ys : List DomainState) → AreTwinDomains xs ys → (d : ℕ) → IsTwinDomain (get_or xs d no_domain) (get_or ys d no_domain)
twin_at [] ys twins d = subst (λ (zs : List DomainState). IsTwinDomain no_domain (get_or zs d no_domain)) (sym twins) (twin_itself no_domain)
twin_at (x ∷ xs) ys (y, rest, are, twin, more) zero = subst (λ (zs : List DomainState). IsTwinDomain x (get_or zs 0 no_domain)) (sym are) twin
twin_at (x ∷ xs) ys (y, rest, are, twin, more) (suc d) = subst (λ (zs : List DomainState). IsTwinDomain (get_or xs d no_domain) (get_or zs (suc d) no_domain)) (sym are) (twin_at xs rest more d)

twin_set : (xs ys : List DomainState) → AreTwinDomains xs ys → (d : ℕ) (u v : DomainState) → IsTwinDomain u v → AreTwinDomains (set xs d u) (set ys d v)
twin_set [] ys twins d u v new = ap (λ (zs : List DomainState). set zs d v) twins
twin_set (x ∷ xs) ys (y, rest, are, twin, more) zero u v new = (v, rest, ap (λ (zs : List DomainState). set zs 0 v) are, new, more)
twin_set (x ∷ xs) ys (y, rest, are, twin, more) (suc d) u v new = (y, set rest d v, ap (λ (zs : List DomainState). set zs (suc d) v) are, twin, twin_set xs rest more d u v new)

twin_map : (f g : DomainState → DomainState) → ((x y : DomainState) → IsTwinDomain x y → IsTwinDomain (f x) (g y)) → (xs ys : List DomainState) → AreTwinDomains xs ys → AreTwinDomains (map f xs) (map g ys)
twin_map f g each [] ys twins = ap (map g) twins
twin_map f g each (x ∷ xs) ys (y, rest, are, twin, more) = (g y, map g rest, ap (map g) are, each x y twin, twin_map f g each xs rest more)

twin_parts : {A : Type 0} (f : DomainState → A) → ((x y : DomainState) → IsTwinDomain x y → f y ≡ f x) → (xs ys : List DomainState) → AreTwinDomains xs ys → map f ys ≡ map f xs
twin_parts f each [] ys twins = ap (map f) twins
twin_parts f each (x ∷ xs) ys (y, rest, are, twin, more) = ap (map f) are ∙ (λ i. each x y twin i ∷ twin_parts f each xs rest more i)

twin_labels : {A : Type 0} (f : DomainState → List A) → ((x y : DomainState) → IsTwinDomain x y → f y ≡ f x) → (xs ys : List DomainState) → AreTwinDomains xs ys → flat_map f ys ≡ flat_map f xs
twin_labels f each [] ys twins = ap (flat_map f) twins
twin_labels f each (x ∷ xs) ys (y, rest, are, twin, more) = ap (flat_map f) are ∙ (λ i. each x y twin i ++ twin_labels f each xs rest more i)

abbrev shown_of : Label → Reply
shown_of l = BlockReply l

-- two states with one graph and such domains
pub record AreTwins (s t : State) : Type 0 where
  pub graph : t.graph ≡ s.graph
  pub domains : AreTwinDomains s.domains t.domains

domains_itself : (xs : List DomainState) → AreTwinDomains xs xs
domains_itself [] = refl
domains_itself (x ∷ xs) = (x, xs, refl, twin_itself x, domains_itself xs)

pub record TwinOutcomes (o p : Outcome) : Type 0 where
  pub replies : p.reply ≡ o.reply
  pub states : AreTwins o.state p.state

module _ (s t : State) (r : AreTwins s t) where
  own_twin : (d : ℕ) → IsTwinDomain (domain_at s d) (domain_at t d)
  own_twin d = twin_at s.domains t.domains r.domains d

  with_domains : (d : ℕ) (x y : DomainState) → IsTwinDomain x y → AreTwins (with_domain s d x) (with_domain t d y)
  with_domains d x y new = record { graph = r.graph; domains = twin_set s.domains t.domains r.domains d x y new }

  with_registers : (d dst : ℕ) (v : Value) → AreTwins (with_register s d dst v) (with_register t d dst v)
  with_registers d dst v =
      let w = own_twin d in
      with_domains d _ _ (record { registers = ap (λ (rs : List Value). set rs dst v) w.registers; serial = w.serial; finals = w.finals; lasts = w.lasts; queue = w.queue })

  with_blocks : (l : Label) (n : Node) → AreTwins (with_block s l n) (with_block t l n)
  with_blocks l n = record { graph = ap (λ (g : Graph). with_node g l n) r.graph; domains = r.domains }

  held_same : (d i : ℕ) → register t d i ≡ register s d i
  held_same d i = ap (λ (rs : List Value). get_or rs i Nothing) (own_twin d).registers

  block_same : (d i : ℕ) → block_in t d i ≡ block_in s d i
  block_same d i = λ j. option_and_then (block_at (r.graph j)) (label_of (held_same d i j))

  only : (x : Reply) → TwinOutcomes (only_replies s x) (only_replies t x)
  only x = record { replies = refl; states = r }

  done : (a b : State) → AreTwins a b → TwinOutcomes (done_with a) (done_with b)
  done a b twins = record { replies = refl; states = twins }

  reads : (d dst : ℕ) (v : Value) → TwinOutcomes (read_into s d dst v) (read_into t d dst v)
  reads d dst v = record { replies = refl; states = with_registers d dst v }

  told : (b : Bool) → TwinOutcomes (tells s b) (tells t b)
  told true = only _
  told false = only _

  bounds : {A : Type 0} (a : Option A) (f g : A → Outcome) → ((x : A) → TwinOutcomes (f x) (g x)) → TwinOutcomes (in_bounds s a f) (in_bounds t a g)
  bounds None f g each = only _
  bounds (Some x) f g each = each x

  allocates : (d dst : ℕ) (n : Node) → TwinOutcomes (allocated s d dst n) (allocated t d dst n)
  allocates d dst n =
      let w = own_twin d in
      let serial : (domain_at t d).serial + 1 ≡ (domain_at s d).serial + 1 = ap (λ (i : ℕ). i + 1) w.serial in
      let label : Label = record { domain = d; serial = (domain_at s d).serial + 1 } in
      let other : Label = record { domain = d; serial = (domain_at t d).serial + 1 } in
      let same : other ≡ label = λ i. record { domain = d; serial = serial i } in
      let made : AreTwins (with_domain s d (record (domain_at s d) { serial = (domain_at s d).serial + 1 })) (with_domain t d (record (domain_at t d) { serial = (domain_at t d).serial + 1 })) =
      with_domains d _ _ (record { registers = w.registers; serial = serial; finals = w.finals; lasts = w.lasts; queue = w.queue }) in
      let x : State = record (with_domain s d (record (domain_at s d) { serial = (domain_at s d).serial + 1 })) { graph = s.graph ++ (label, n) ∷ []; kept = s.kept + 1 } in
      let y : State = record (with_domain t d (record (domain_at t d) { serial = (domain_at t d).serial + 1 })) { graph = t.graph ++ (other, n) ∷ []; kept = t.kept + 1 } in
      finish x y (record { graph = (λ i. r.graph i ++ (same i, n) ∷ []); domains = made.domains }) label other same
    where
      finish : (x y : State) → AreTwins x y → (l m : Label) → m ≡ l → TwinOutcomes (record { reply = shown_of l; state = with_register x d dst (Block l) }) (record { reply = shown_of m; state = with_register y d dst (Block m) })
      finish x y twins l m same = record {
        replies = ap shown_of same;
        states = subst (λ (k : Label). AreTwins (with_register x d dst (Block l)) (with_register y d dst (Block k))) (sym same) (record {
          graph = twins.graph;
          domains =
              let w = twin_at x.domains y.domains twins.domains d in
              twin_set x.domains y.domains twins.domains d _ _ (record { registers = ap (λ (rs : List Value). set rs dst (Block l)) w.registers; serial = w.serial; finals = w.finals; lasts = w.lasts; queue = w.queue });
        });
      }

  loads : (d dst i : ℕ) (b : Option (Label × Node)) → TwinOutcomes (loaded s d dst i b) (loaded t d dst i b)
  loads d dst i None = only _
  loads d dst i (Some (l, Plain tag fields)) = bounds (slice_get fields i) _ _ (reads d dst)
  loads d dst i (Some (l, Raw tag fields)) = bounds (slice_get fields i) _ _ (reads d dst)
  loads d dst i (Some (l, Ephe keys datum)) = only _

  fields : (i : ℕ) (b : Option (Label × Node)) (v : Value) (f g : Label → Node → Value → Outcome) → ((l : Label) (n : Node) (held : Value) → TwinOutcomes (f l n held) (g l n held)) → TwinOutcomes (at_field s i b v f) (at_field t i b v g)
  fields i None v f g each = only _
  fields i (Some (l, Ephe keys datum)) v f g each = only _
  fields i (Some (l, Plain tag held)) Nothing f g each = only _
  fields i (Some (l, Plain tag held)) (Int x) f g each = bounds (slice_get held i) _ _ (λ a. each l _ a)
  fields i (Some (l, Plain tag held)) (Block x) f g each = bounds (slice_get held i) _ _ (λ a. each l _ a)
  fields i (Some (l, Raw tag held)) (Int x) f g each = bounds (slice_get held i) _ _ (λ a. each l _ a)
  fields i (Some (l, Raw tag held)) (Block x) f g each = only _
  fields i (Some (l, Raw tag held)) Nothing f g each = only _

  where_same : (l : Label) (n : Node) (b : Bool) → TwinOutcomes (written_where s l n b) (written_where t l n b)
  where_same l n true = record { replies = refl; states = with_blocks l n }
  where_same l n false = only _

  exchanges : (i : ℕ) (b : Option (Label × Node)) (expected v : Value) → TwinOutcomes (exchanged s i b expected v) (exchanged t i b expected v)
  exchanges i b Nothing v = only _
  exchanges i b (Int x) v = fields i b v _ _ (λ l n held. where_same l n (same_value held (Int x)))
  exchanges i b (Block x) v = fields i b v _ _ (λ l n held. where_same l n (same_value held (Block x)))

  ephes : (b : Option (Label × Node)) (f g : Label → List (Option Label) → Value → Outcome) → ((l : Label) (keys : List (Option Label)) (datum : Value) → TwinOutcomes (f l keys datum) (g l keys datum)) → TwinOutcomes (at_ephe s b f) (at_ephe t b g)
  ephes None f g each = only _
  ephes (Some (l, Plain tag held)) f g each = only _
  ephes (Some (l, Raw tag held)) f g each = only _
  ephes (Some (l, Ephe keys datum)) f g each = each l keys datum

  sets_key : (i : ℕ) (key : Option Label) (l : Label) (keys : List (Option Label)) (datum : Value) → TwinOutcomes (key_set s i key l keys datum) (key_set t i key l keys datum)
  sets_key i key l keys datum = bounds (slice_get keys i) _ _ (λ k. done _ _ (with_blocks l _))

  stores_key : (i : ℕ) (key : Option Label) (b : Option (Label × Node)) → TwinOutcomes (key_stored s i key b) (key_stored t i key b)
  stores_key i None b = only _
  stores_key i (Some k) b = ephes b _ _ (sets_key i (Some k))

  stores_datum : (b : Option (Label × Node)) (v : Value) → TwinOutcomes (datum_stored s b v) (datum_stored t b v)
  stores_datum b Nothing = only _
  stores_datum b (Int x) = ephes b _ _ (λ l keys datum. done _ _ (with_blocks l _))
  stores_datum b (Block x) = ephes b _ _ (λ l keys datum. done _ _ (with_blocks l _))

  finalises : (d number dst : ℕ) (o : Option Label) → TwinOutcomes (finalised s d number dst o) (finalised t d number dst o)
  finalises d number dst None = only _
  finalises d number dst (Some l) =
      let w = own_twin d in
      let f : Finaliser = record { number = number; label = l; register = dst } in
      done _ _ (with_domains d _ _ (record { registers = w.registers; serial = w.serial; finals = ap (λ (fs : List Finaliser). fs ++ f ∷ []) w.finals; lasts = w.lasts; queue = w.queue }))

  finalises_last : (d number : ℕ) (o : Option Label) → TwinOutcomes (finalised_last s d number o) (finalised_last t d number o)
  finalises_last d number None = only _
  finalises_last d number (Some l) =
      let w = own_twin d in
      let f : LastFinaliser = record { number = number; label = l } in
      done _ _ (with_domains d _ _ (record { registers = w.registers; serial = w.serial; finals = w.finals; lasts = ap (λ (fs : List LastFinaliser). fs ++ f ∷ []) w.lasts; queue = w.queue }))

  reach_same : reach t ≡ reach s
  reach_same =
      let qs : queues t ≡ queues s = twin_parts (λ x. x.queue) (λ x y w. w.queue) s.domains t.domains r.domains in
      let held : flat_map (λ (x : DomainState). filter_map label_of x.registers) t.domains ≡ flat_map (λ (x : DomainState). filter_map label_of x.registers) s.domains =
      twin_labels (λ x. filter_map label_of x.registers) (λ x y w. ap (λ (rs : List Value). filter_map label_of rs) w.registers) s.domains t.domains r.domains in
      (λ i. reachable (r.graph i) (held i ++ flat_map (filter_map pending_label) (qs i)))

  live_same : live_reply t ≡ live_reply s
  live_same = (λ i. Live (length (reach_same i)) (sum_by (words_at (r.graph i)) (reach_same i)))

  outcomes : (d : ℕ) (c : declared_command.Command) → TwinOutcomes (outcome s d c) (outcome t d c)
  outcomes d (PutInt dst value) = done _ _ (with_registers d dst (Int value))
  outcomes d (Copy dst src) = subst (λ (v : Value). TwinOutcomes (outcome s d (Copy dst src)) (done_with (with_register t d dst v))) (sym (held_same d src)) (done _ _ (with_registers d dst (register s d src)))
  outcomes d (Forget dst) = done _ _ (with_registers d dst Nothing)
  outcomes d (Alloc dst tag n) = allocates d dst _
  outcomes d (AllocMaj dst tag n) = allocates d dst _
  outcomes d (Load dst src index) = subst (λ (b : Option (Label × Node)). TwinOutcomes (outcome s d (Load dst src index)) (loaded t d dst index b)) (sym (block_same d src)) (loads d dst index (block_in s d src))
  outcomes d (Store block index item) =
      subst (λ (b : Option (Label × Node)). TwinOutcomes (outcome s d (Store block index item)) (at_field t index b (register t d item) (λ l n held. done_with (with_block t l n)))) (sym (block_same d block))
      (subst (λ (v : Value). TwinOutcomes (outcome s d (Store block index item)) (at_field t index (block_in s d block) v (λ l n held. done_with (with_block t l n)))) (sym (held_same d item))
      (fields index (block_in s d block) (register s d item) _ _ (λ l n held. done _ _ (with_blocks l n))))
  outcomes d (NewRaw dst tag n) = allocates d dst _
  outcomes d (Cas block index expected item) =
      subst (λ (b : Option (Label × Node)). TwinOutcomes (outcome s d (Cas block index expected item)) (exchanged t index b (register t d expected) (register t d item))) (sym (block_same d block))
      (subst (λ (v : Value). TwinOutcomes (outcome s d (Cas block index expected item)) (exchanged t index (block_in s d block) v (register t d item))) (sym (held_same d expected))
      (subst (λ (v : Value). TwinOutcomes (outcome s d (Cas block index expected item)) (exchanged t index (block_in s d block) (register s d expected) v)) (sym (held_same d item))
      (exchanges index (block_in s d block) (register s d expected) (register s d item))))
  outcomes d (NewEphe dst keys) = allocates d dst _
  outcomes d (SetKey ephe index item) =
      subst (λ (b : Option (Label × Node)). TwinOutcomes (outcome s d (SetKey ephe index item)) (key_stored t index (label_in t d item) b)) (sym (block_same d ephe))
      (subst (λ (k : Option Label). TwinOutcomes (outcome s d (SetKey ephe index item)) (key_stored t index k (block_in s d ephe))) (sym (ap label_of (held_same d item))) (stores_key index (label_in s d item) (block_in s d ephe)))
  outcomes d (UnsetKey ephe index) = subst (λ (b : Option (Label × Node)). TwinOutcomes (outcome s d (UnsetKey ephe index)) (at_ephe t b (key_set t index None))) (sym (block_same d ephe)) (ephes (block_in s d ephe) _ _ (sets_key index None))
  outcomes d (GetKey dst ephe index) =
      subst (λ (b : Option (Label × Node)). TwinOutcomes (outcome s d (GetKey dst ephe index)) (at_ephe t b (λ l keys datum. in_bounds t (slice_get keys index) (λ k. read_into t d dst (key_value k))))) (sym (block_same d ephe))
      (ephes (block_in s d ephe) _ _ (λ l keys datum. bounds (slice_get keys index) _ _ (λ k. reads d dst (key_value k))))
  outcomes d (CheckKey ephe index) =
      subst (λ (b : Option (Label × Node)). TwinOutcomes (outcome s d (CheckKey ephe index)) (at_ephe t b (λ l keys datum. in_bounds t (slice_get keys index) (λ k. tells t (is_some k))))) (sym (block_same d ephe))
      (ephes (block_in s d ephe) _ _ (λ l keys datum. bounds (slice_get keys index) _ _ (λ k. told (is_some k))))
  outcomes d (SetData ephe item) =
      subst (λ (b : Option (Label × Node)). TwinOutcomes (outcome s d (SetData ephe item)) (datum_stored t b (register t d item))) (sym (block_same d ephe))
      (subst (λ (v : Value). TwinOutcomes (outcome s d (SetData ephe item)) (datum_stored t (block_in s d ephe) v)) (sym (held_same d item)) (stores_datum (block_in s d ephe) (register s d item)))
  outcomes d (UnsetData ephe) =
      subst (λ (b : Option (Label × Node)). TwinOutcomes (outcome s d (UnsetData ephe)) (at_ephe t b (λ l keys datum. done_with (with_block t l (Ephe keys Nothing))))) (sym (block_same d ephe)) (ephes (block_in s d ephe) _ _ (λ l keys datum. done _ _ (with_blocks l _)))
  outcomes d (GetData dst ephe) =
      subst (λ (b : Option (Label × Node)). TwinOutcomes (outcome s d (GetData dst ephe)) (at_ephe t b (λ l keys datum. read_into t d dst datum))) (sym (block_same d ephe)) (ephes (block_in s d ephe) _ _ (λ l keys datum. reads d dst datum))
  outcomes d (CheckData ephe) =
      subst (λ (b : Option (Label × Node)). TwinOutcomes (outcome s d (CheckData ephe)) (at_ephe t b (λ l keys datum. tells t (is_full_value datum)))) (sym (block_same d ephe)) (ephes (block_in s d ephe) _ _ (λ l keys datum. told (is_full_value datum)))
  outcomes d (Finalise item number dst) = subst (λ (k : Option Label). TwinOutcomes (outcome s d (Finalise item number dst)) (finalised t d number dst k)) (sym (ap label_of (held_same d item))) (finalises d number dst (label_in s d item))
  outcomes d (FinaliseLast item number) = subst (λ (k : Option Label). TwinOutcomes (outcome s d (FinaliseLast item number)) (finalised_last t d number k)) (sym (ap label_of (held_same d item))) (finalises_last d number (label_in s d item))
  outcomes d Poll = only _
  outcomes d Minor = only _
  outcomes d Major = only _
  outcomes d FullMajor = record { replies = live_same; states = r }
  outcomes d (Spawn section item) = only _
  outcomes d (Argument dst) = only _
  outcomes d (PutResult item) = only _
  outcomes d (Join dst section) = only _

  command_outcomes : (d : ℕ) (c : declared_command.Command) (full : Bool) → TwinOutcomes (command_outcome s d c full) (command_outcome t d c full)
  command_outcomes d c true = only _
  command_outcomes d c false = outcomes d c

  wiped_twins : (l : Label) (o : Option Node) → AreTwins (with_wiped s l o) (with_wiped t l o)
  wiped_twins l None = r
  wiped_twins l (Some n) = with_blocks l n

  without_firsts : (d : ℕ) (rest : List Pending) → AreTwins (with_domain s d (without_first (domain_at s d) rest)) (with_domain t d (without_first (domain_at t d) rest))
  without_firsts d rest = let w = own_twin d in with_domains d _ _ (record { registers = w.registers; serial = w.serial; finals = w.finals; lasts = w.lasts; queue = refl })

after_twins : (s t : State) → AreTwins s t → (d : ℕ) → AreTwins (after_command s d) (after_command t d)
after_twins s t r d = let w = own_twin s t r d in with_domains s t r d _ _ (record { registers = w.registers; serial = w.serial; finals = w.finals; lasts = w.lasts; queue = w.queue })

ran_twins : (s t : State) → AreTwins s t → (d : ℕ) (q : List Pending) → AreTwins (after_run s d q) (after_run t d q)
ran_twins s t r d [] = r
ran_twins s t r d (Fin number l k ∷ rest) = with_registers _ _ (without_firsts s t r d rest) d k (Block l)
ran_twins s t r d (LastPending number ∷ rest) = without_firsts s t r d rest

-- each entry leaves twins and answers the same
pub next_twins : (s t : State) → AreTwins s t → (e : Entry) → AreTwins (next s e) (next t e)
next_twins s t r (CommandOf d c full) = after_twins _ _ (command_outcomes s t r d c full).states d
next_twins s t r (End d) =
    let w = own_twin s t r d in with_domains s t r d _ _ (record { registers = ap (λ (rs : List Value). replicate (length rs) Nothing) w.registers; serial = w.serial; finals = refl; lasts = refl; queue = w.queue })
next_twins s t r Cut = record { graph = r.graph; domains = twin_map _ _ (λ x y w. record { registers = w.registers; serial = w.serial; finals = w.finals; lasts = w.lasts; queue = w.queue }) s.domains t.domains r.domains }
next_twins s t r (Queue d places) =
    let w = own_twin s t r d in with_domains s t r d _ _ (record {
      registers = w.registers;
      serial = w.serial;
      finals = ap (without_places places) w.finals;
      lasts = w.lasts;
      queue = (λ i. w.queue i ++ map queued_final (at_places (reverse places) (w.finals i)));
    })
next_twins s t r Seal = record { graph = r.graph; domains = twin_map _ _ (λ x y w. record { registers = w.registers; serial = w.serial; finals = w.finals; lasts = w.lasts; queue = w.queue }) s.domains t.domains r.domains }
next_twins s t r (Wipe l keys) =
    let w = subst (λ (g : Graph). AreTwins (with_wiped s l (wiped keys (node_at s.graph l))) (with_wiped t l (wiped keys (node_at g l)))) (sym r.graph) (wiped_twins s t r l (wiped keys (node_at s.graph l))) in
    record { graph = w.graph; domains = w.domains }
next_twins s t r (LastOf d place) =
    let w = own_twin s t r d in
    let one = with_domains s t r d (with_last_queued (domain_at s d) place) (with_last_queued (domain_at t d) place) (record {
      registers = w.registers;
      serial = w.serial;
      finals = w.finals;
      lasts = ap (λ (fs : List LastFinaliser). remove fs place) w.lasts;
      queue = (λ i. w.queue i ++ map queued_last (at_places (place ∷ []) (w.lasts i)));
    }) in
    record { graph = one.graph; domains = one.domains }
next_twins s t r Collected = record { graph = r.graph; domains = twin_map _ _ (λ x y w. record { registers = w.registers; serial = w.serial; finals = w.finals; lasts = w.lasts; queue = w.queue }) s.domains t.domains r.domains }
next_twins s t r Done = record { graph = r.graph; domains = r.domains }
next_twins s t r (Ran d) = subst (λ (q : List Pending). AreTwins (after_run s d (domain_at s d).queue) (after_run t d q)) (sym (own_twin s t r d).queue) (ran_twins s t r d (domain_at s d).queue)

pub reply_twins : (s t : State) → AreTwins s t → (e : Entry) → reply t e ≡ reply s e
reply_twins s t r (CommandOf d c full) = ap Replied (command_outcomes s t r d c full).replies
reply_twins s t r (Ran d) = ap run_reply (own_twin s t r d).queue
reply_twins s t r (End d) = refl
reply_twins s t r Cut = refl
reply_twins s t r (Queue d places) = refl
reply_twins s t r Seal = refl
reply_twins s t r (Wipe l keys) = refl
reply_twins s t r (LastOf d place) = refl
reply_twins s t r Collected = refl
reply_twins s t r Done = refl
