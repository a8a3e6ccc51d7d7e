-- Domain 0 makes the hidden block, and clears the field through which it was handed on.
use Rattle.std.proofs.Common.{◌≡◌, ◌∙◌, ◌++◌, ◌∷◌, ◌+◌, ◌≤◌, ◌<◌, ℕ, zero, suc, false, List, [], Some, append-nil, append_assoc, ap, arith, length, insert, refl, remove, slice_get, sym, subst}
use Rattle.std.specs.Prelude.{pos, slice_index, slice_index_or, slice_set}
use Rattle.heap_words.specs.declared.classes.TheConstants.{SIZES}
use Rattle.heap_words.specs.Classes.Table.{IsLeastFor}
use Rattle.model_core.specs.declared.command.Command.{Command}
use Rattle.model_core.specs.declared.command.Command.TheVariants.{AllocMaj, Forget, PutInt, Store}
use Rattle.model_core.specs.declared.entry.Entry.{Entry}
use Rattle.model_core.specs.declared.entry.Entry.TheVariants.{Command as CommandOf}
use Rattle.model_core.specs.declared.reply.Reply.{Reply}
use Rattle.model_core.specs.Fronts.{NoneOf, is_full_major}
use Rattle.model_core.specs.History.{IsPrefix}
use Rattle.heap_rule.specs.declared.view.Own.{Own}
use Rattle.model_core.specs.Domains.{IsWithinLimits}
use Rattle.heap_rule.specs.Limits.{sizes_in}
use Rattle.heap_rule.specs.Opening.{opening_token, opening_tokens}
use Rattle.heap_rule.specs.Running.{ChangesRegisters, Did}
use Rattle.heap_rule.specs.Token.{SharedHeap, Token}
use Rattle.heap_rule.specs.Views.{opening_view}
use Rattle.do_fields.specs.Fields.Remembered.{ChangesRemembered}
use Rattle.do_alloc.specs.Pools.Taken.{GrowsBy}
use Rattle.model_traces.specs.Spawns.Hidden.{hidden, hidden_fields, prelude, scratch}
use Rattle.do_spawn.specs.Opening.{Began, Cleared, HandedUpto, Has, IsOpened, Keeps, MadeHidden, MetUpto, clearing, made_by, making, takings}
use Rattle.do_spawn.proofs.Handing.{Made, began_did, get_within, keeps_registers, made_count, made_has, opening_began}
use Rattle.do_spawn.proofs.Making.{prefix_trans}

-- what a command of domain 0 leaves of its front
module _ (h : SharedHeap) (t u : Token) (c : Command) (r : Reply) (b : Began h 0 t) (did : Did h t u c r) (short : is_full_major (CommandOf t.view.own.number c false) ≡ false) where
  pub made : Made 0 (CommandOf 0 c false) t.view.seen.front u.view.seen.front
  made = record {
    between = did.answers.between;
    others = subst (λ (n : ℕ). NoneOf n did.answers.between) b.keeps.number did.answers.others;
    calls = did.answers.calls short;
    appends = did.answers.appends ∙ ((λ i. t.view.seen.front ++ did.answers.between ++ CommandOf (b.keeps.number i) c false ∷ []) ∙ append_assoc t.view.seen.front did.answers.between (CommandOf 0 c false ∷ []));
  }

  pub mine_more : made_by 0 u.view.seen.front ≡ made_by 0 t.view.seen.front + 1
  mine_more = made_count 0 (CommandOf 0 c false) t.view.seen.front u.view.seen.front refl made

  pub has_then : (p : List Entry) → Has p t.view.seen.front → Has (p ++ CommandOf 0 c false ∷ []) u.view.seen.front
  has_then p has = made_has 0 (CommandOf 0 c false) p t.view.seen.front u.view.seen.front made has

  pub part_then : IsPrefix t.view.seen.front u.view.seen.front
  part_then = record { rest = made.between ++ CommandOf 0 c false ∷ []; appends = made.appends }

-- a store may remember, and leaves all else
keeps_remembered : (x y z : Own) → Keeps x y → z ≡ record y { remembered = z.remembered } → Keeps x z
keeps_remembered x y z k is = record {
  number = ap (λ (o : Own). o.number) is ∙ k.number;
  used = ap (λ (o : Own). o.used) is ∙ k.used;
  serial = subst (λ (n : ℕ). n ≤ x.serial + 1) (sym (ap (λ (o : Own). o.serial) is)) k.serial;
  arrivals = ap (λ (o : Own). o.arrivals) is ∙ k.arrivals;
  prepared = ap (λ (o : Own). o.prepared) is ∙ k.prepared;
  pending = ap (λ (o : Own). o.pending) is ∙ k.pending;
  ephemerons = subst (λ (n : ℕ). x.ephemerons.room ≤ n) (sym (ap (λ (o : Own). o.ephemerons.room) is)) k.ephemerons;
  finalisers = ap (λ (o : Own). o.finalisers) is ∙ k.finalisers;
}

-- room for what it remembers
pub room_there : (h : SharedHeap) (t u : Token) → IsWithinLimits (sizes_in h.config) → t ≡ opening_token h.table h.config 0 → GrowsBy t u → 2 ≤ u.view.own.remembered.room
room_there h t u limits starts grows = (let n : ℕ = u.view.own.remembered.room in let m : ℕ = h.config.minor_words in let many : 4096 ≤ m = limits.some_minor in let is : n ≡ m = ap (λ (o : Own). o.remembered.room) grows.own ∙ ap (λ (w : Token). w.view.own.remembered.room) starts in let e : 2 ≤ n = omega arith in e)

-- the first entries
module _ (h : SharedHeap) (t u v : Token) (r s : Reply) (starts : t ≡ opening_token h.table h.config 0) (some : 0 < h.config.domains)
    (allocated : Did h t u (AllocMaj hidden 0 hidden_fields) r) (grows : GrowsBy t u) (stored : Did h u v (Store 0 15 hidden) s) (rest : ChangesRemembered u v) where
  began_t : Began h 0 t
  began_t = subst (Began h 0) (sym starts) (opening_began h 0 some)

  grown : Keeps t.view.own u.view.own
  grown = record {
    number = ap (λ (o : Own). o.number) grows.own;
    used = ap (λ (o : Own). o.used) grows.own;
    serial = (let n : ℕ = u.view.own.serial in let m : ℕ = t.view.own.serial in let is : n ≡ m + 1 = ap (λ (o : Own). o.serial) grows.own in let e : n ≤ m + 1 = omega arith in e);
    arrivals = ap (λ (o : Own). o.arrivals) grows.own;
    prepared = ap (λ (o : Own). o.prepared) grows.own;
    pending = ap (λ (o : Own). o.pending) grows.own;
    ephemerons = grows.sweep.shortens.no_less;
    finalisers = ap (λ (o : Own). o.finalisers) grows.own;
  }

  pub began_u : Began h 0 u
  began_u = began_did h 0 t u (AllocMaj hidden 0 hidden_fields) r began_t allocated (subst (λ (w : Token). Keeps w.view.own u.view.own) starts grown)

  began_v : Began h 0 v
  began_v = began_did h 0 u v (Store 0 15 hidden) s began_u stored (keeps_remembered (opening_view h.config 0).own u.view.own v.view.own began_u.keeps rest.own)

  front_t : t.view.seen.front ≡ []
  front_t = ap (λ (w : Token). w.view.seen.front) starts

  pub made_hidden : 1 ≤ v.view.own.remembered.room → MadeHidden h v
  made_hidden room = record {
    began = began_v;
    room = room;
    has = has_then h u v (Store 0 15 hidden) s began_u stored refl (CommandOf 0 (AllocMaj hidden 0 hidden_fields) false ∷ []) (has_then h t u (AllocMaj hidden 0 hidden_fields) r began_t allocated refl [] (subst (Has []) (sym front_t) refl));
    mine = mine_more h u v (Store 0 15 hidden) s began_u stored refl ∙ ap (λ (n : ℕ). n + 1) (mine_more h t u (AllocMaj hidden 0 hidden_fields) r began_t allocated refl ∙ ap (λ (f : List Entry). made_by 0 f + 1) front_t);
  }

-- the last ones
module _ (h : SharedHeap) (t u v w : Token) (r s q : Reply) (b : Began h 0 t) (put : Did h t u (PutInt scratch (pos 0)) r) (put_rest : ChangesRegisters t u) (stored : Did h u v (Store 0 15 scratch) s) (stored_rest : ChangesRemembered u v) (forgot : Did h v w (Forget scratch) q) (forgot_rest : ChangesRegisters v w) where
  put_began : Began h 0 u
  put_began = began_did h 0 t u (PutInt scratch (pos 0)) r b put (keeps_registers (opening_view h.config 0).own t.view.own u.view.own b.keeps put_rest.own)

  stored_began : Began h 0 v
  stored_began = began_did h 0 u v (Store 0 15 scratch) s put_began stored (keeps_remembered (opening_view h.config 0).own u.view.own v.view.own put_began.keeps stored_rest.own)

  forgot_began : Began h 0 w
  forgot_began = began_did h 0 v w (Forget scratch) q stored_began forgot (keeps_registers (opening_view h.config 0).own v.view.own w.view.own stored_began.keeps forgot_rest.own)

  pub cleared : Cleared h t w
  cleared = record {
    began = forgot_began;
    has = λ p has. subst (λ (l : List Entry). Has l w.view.seen.front) (append_assoc (p ++ CommandOf 0 (PutInt scratch (pos 0)) false ∷ []) (CommandOf 0 (Store 0 15 scratch) false ∷ []) (CommandOf 0 (Forget scratch) false ∷ []) ∙ append_assoc p (CommandOf 0 (PutInt scratch (pos 0)) false ∷ []) (CommandOf 0 (Store 0 15 scratch) false ∷ CommandOf 0 (Forget scratch) false ∷ []))
        (has_then h v w (Forget scratch) q stored_began forgot refl _ (has_then h u v (Store 0 15 scratch) s put_began stored refl _ (has_then h t u (PutInt scratch (pos 0)) r b put refl p has)));
    mine = (let a : ℕ = made_by 0 t.view.seen.front in let c : ℕ = made_by 0 u.view.seen.front in let e : ℕ = made_by 0 v.view.seen.front in let g : ℕ = made_by 0 w.view.seen.front in
        let one : c ≡ a + 1 = mine_more h t u (PutInt scratch (pos 0)) r b put refl in let two : e ≡ c + 1 = mine_more h u v (Store 0 15 scratch) s put_began stored refl in let three : g ≡ e + 1 = mine_more h v w (Forget scratch) q stored_began forgot refl in let all : g ≡ a + 3 = omega arith in all);
    part = prefix_trans t.view.seen.front u.view.seen.front w.view.seen.front (part_then h t u (PutInt scratch (pos 0)) r b put refl) (prefix_trans u.view.seen.front v.view.seen.front w.view.seen.front (part_then h u v (Store 0 15 scratch) s put_began stored refl) (part_then h v w (Forget scratch) q stored_began forgot refl));
  }

-- the others, at the start
tokens_from : (h : SharedHeap) (d n e : ℕ) (t : Token) → slice_get (opening_tokens h.table h.config d n) e ≡ Some t → t ≡ opening_token h.table h.config (d + e)
tokens_from h d zero e t at = cc
tokens_from h d (suc n) zero t at = (let is : opening_token h.table h.config d ≡ t = cc in sym is) ∙ ap (opening_token h.table h.config) (let e : d ≡ d + 0 = omega arith in e)
tokens_from h d (suc n) (suc e) t at = tokens_from h (d + 1) n e t at ∙ ap (opening_token h.table h.config) (let i : d + 1 + e ≡ d + suc e = omega arith in i)

pub tokens_count : (h : SharedHeap) (d n : ℕ) → length (opening_tokens h.table h.config d n) ≡ n
tokens_count h d zero = refl
tokens_count h d (suc n) = ap suc (tokens_count h (d + 1) n)

-- nobody has taken it yet
pub handed_none : (h : SharedHeap) (first : Token) (others : List Token) (n : ℕ) → others ≡ opening_tokens h.table h.config 1 n → MadeHidden h first → HandedUpto h first others 0
handed_none h first others n is m = record {
  began = m.began;
  room = m.room;
  has = m.has;
  mine = m.mine;
  done = λ e t before there. absurd (omega (arith, before));
  waits = λ e t behind there. tokens_from h 1 n e t (subst (λ (l : List Token). slice_get l e ≡ Some t) is there) ∙ ap (opening_token h.table h.config) (let i : 1 + e ≡ e + 1 = omega arith in i);
}

-- nobody has been met since
pub met_none : (h : SharedHeap) (first new : Token) (others : List Token) → HandedUpto h first others (length others) → Cleared h first new → MetUpto h new.view.seen.front new others 0
met_none h first new others u c = record {
  began = c.began;
  grew = record { rest = []; appends = sym (append-nil new.view.seen.front); others = refl; calls = refl };
  done = λ e t before there. absurd (omega (arith, before));
  waits = λ e t behind there. let d = u.done e t (get_within others e t there) there in (d.0, d.1, prefix_trans t.view.seen.front first.view.seen.front new.view.seen.front d.2 c.part);
}

-- a domain that is taken out of a list, and put back
pub taken_out : (xs : List Token) (i : ℕ) (x : Token) → i < length xs → x ≡ slice_index_or xs i x → slice_get xs i ≡ Some x
taken_out [] i x within is = absurd (omega (arith, within))
taken_out (y ∷ ys) zero x within is = ap Some (sym is)
taken_out (y ∷ ys) (suc i) x within is = taken_out ys i x (omega (arith, within)) is

pub put_back : (xs : List Token) (i : ℕ) (y : Token) → i < length xs → insert (remove xs i) i y ≡ slice_set xs i y
put_back [] i y within = absurd (omega (arith, within))
put_back (x ∷ xs) zero y within = refl
put_back (x ∷ xs) (suc i) y within = ap (λ (l : List Token). x ∷ l) (put_back xs i y (omega (arith, within)))

pub set_count : (xs : List Token) (i : ℕ) (y : Token) → length (slice_set xs i y) ≡ length xs
set_count [] i y = refl
set_count (x ∷ xs) zero y = refl
set_count (x ∷ xs) (suc i) y = ap suc (set_count xs i y)

-- the class of the hidden block
pub class_of_hidden : IsLeastFor SIZES (hidden_fields + 2) 3
class_of_hidden = record { inside = omega arith; fits = omega arith; least = below }
  where
    below : (j : ℕ) → j < 3 → slice_index SIZES j < hidden_fields + 2
    below zero less = omega arith
    below (suc zero) less = omega arith
    below (suc (suc zero)) less = omega arith
    below (suc (suc (suc j))) less = absurd (omega (arith, less))

-- a place of the others is the number of a domain, less one
pub below_all : (xs ys : List Token) (at n : ℕ) (t : Token) → slice_get xs at ≡ Some t → length xs ≡ length ys → length ys + 1 ≡ n → at + 1 < n
below_all xs ys at n t there same count = let a : at < length xs = get_within xs at t there in let x : ℕ = length xs in let y : ℕ = length ys in let s : x ≡ y = same in let c : y + 1 ≡ n = count in let b : at < x = a in omega arith

-- the domains at the start: the first of them, and the others
pub first_is : (h : SharedHeap) (all : List Token) (x : Token) → 0 < h.config.domains → all ≡ opening_tokens h.table h.config 0 h.config.domains → x ≡ slice_index_or all 0 x → x ≡ opening_token h.table h.config 0
first_is h all x some are is = go h.config.domains some (is ∙ ap (λ (l : List Token). slice_index_or l 0 x) are) where
  go : (n : ℕ) → 0 < n → x ≡ slice_index_or (opening_tokens h.table h.config 0 n) 0 x → x ≡ opening_token h.table h.config 0
  go zero none got = absurd (omega (arith, none))
  go (suc n) some got = got

pub others_are : (h : SharedHeap) (all others : List Token) → 0 < h.config.domains → all ≡ opening_tokens h.table h.config 0 h.config.domains → others ≡ remove all 0 → (n : ℕ) × (others ≡ opening_tokens h.table h.config 1 n) × (n + 1 ≡ h.config.domains)
others_are h all others some are is = go h.config.domains some (is ∙ ap (λ (l : List Token). remove l 0) are) where
  go : (n : ℕ) → 0 < n → others ≡ remove (opening_tokens h.table h.config 0 n) 0 → (m : ℕ) × (others ≡ opening_tokens h.table h.config 1 m) × (m + 1 ≡ n)
  go zero none got = absurd (omega (arith, none))
  go (suc n) some got = (n, got, omega arith)

-- what stands in the front once the field is empty
pub prelude_counts : (h : SharedHeap) (first new : Token) (others : List Token) → HandedUpto h first others (length others) → Cleared h first new → Has ((making ++ takings (length others)) ++ clearing) new.view.seen.front × (made_by 0 new.view.seen.front ≡ 5)
prelude_counts h first new others u c = (c.has (making ++ takings (length others)) u.has, c.mine ∙ ap (λ (n : ℕ). n + 3) u.mine)

-- as many as there were
pub counted : (h : SharedHeap) (a b c all : List Token) (first : Token) (n : ℕ) → a ≡ opening_tokens h.table h.config 1 n → n + 1 ≡ h.config.domains → length b ≡ length a → length c ≡ length b → all ≡ insert c 0 first → length all ≡ h.config.domains
counted h a b c all first n are more ba cb is = ap length is ∙ ((let x : ℕ = length c in let e : suc x ≡ x + 1 = omega arith in e) ∙ (ap (λ (m : ℕ). m + 1) (cb ∙ (ba ∙ (ap length are ∙ tokens_count h 1 n))) ∙ more))

-- so a history that goes on from what such a domain has seen begins with the prelude
pub begins_with_prelude : (h : SharedHeap) (d : ℕ) (t : Token) (later history : List Entry) → IsOpened h d t → IsPrefix t.view.seen.front later → IsPrefix later history → IsPrefix (prelude h.config.domains) history
begins_with_prelude h d t later history o on last = prefix_trans (prelude h.config.domains) later history (prefix_trans (prelude h.config.domains) t.view.seen.front later (record { rest = o.behind; appends = o.front }) on) last
