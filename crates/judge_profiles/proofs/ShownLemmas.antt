-- What is shown of domains.
use Rattle.std.proofs.Common.{◌≡◌, ℕ, zero, suc, ◌+◌, ◌<◌, ◌≤◌, List, [], ◌∷◌, ◌++◌, length, take, drop, flat_map, slice_get, Option, Some, None, refl, ap, sym, ◌∙◌, subst, arith, append_assoc, append-nil}
use Rattle.std.specs.List.{range_with_len}
use Rattle.std.specs.Prelude.{slice_index_or}
use Rattle.std.proofs.lemmas.List.{take_all}
use borrow.Author.Count.{below_more}
use Rattle.model_core.specs.declared.command.Command.{Command}
use Rattle.judge_plain.specs.History.Explains.{section_lines}
use Rattle.judge_plain.proofs.OfScheduled.ListLemmas.{flat_map_more}
use Rattle.judge_profiles.specs.declared.act.Act.{Act}
use Rattle.judge_profiles.specs.declared.act.Change.{Change}
use Rattle.judge_profiles.specs.declared.profile.Profile.{Profile}
use Rattle.judge_profiles.specs.Explains.{Reads, ReadsAll, ReadsFront, own_lines, shown_lines}
use Rattle.judge_profiles.specs.Shown.{changed, changed_all, on_changed, or_none, replies_of, shown_of}

-- lists of one length whose fronts are the same are the same
pub same_whole : {A : Type 0} (xs ys : List A) (i : ℕ) → length xs ≡ length ys → length xs ≤ i → take i xs ≡ take i ys → xs ≡ ys
same_whole xs ys i same few front = sym (take_all i xs few) ∙ front ∙ take_all i ys (omega (arith, same, few))

drop_at : {A : Type 0} (xs : List A) (i : ℕ) (x : A) → slice_get xs i ≡ Some x → drop i xs ≡ x ∷ drop (suc i) xs
drop_at [] i x at = absurd (let clash : None ≡ Some x = at in cc)
drop_at (y ∷ xs) zero x at = let is : y ≡ x = cc in ap (λ w. w ∷ xs) is
drop_at (y ∷ xs) (suc i) x at = drop_at xs i x at

drop_none : {A : Type 0} (xs : List A) (i : ℕ) → length xs ≤ i → drop i xs ≡ []
drop_none [] zero most = refl
drop_none [] (suc i) most = refl
drop_none (x ∷ xs) zero most = absurd (omega (arith, most))
drop_none (x ∷ xs) (suc i) most = drop_none xs i (omega (arith, most))

-- behind one more change
pub change_more : (p : Profile) (acts now behind : List Act) (changes : List Change) (i j : ℕ) (one : Change) → j ≡ i + 1 → slice_get changes i ≡ Some one → changed p now one ≡ Some behind
    → changed_all p now (drop i changes) ≡ changed_all p acts changes → changed_all p behind (drop j changes) ≡ changed_all p acts changes
change_more p acts now behind changes i j one next at is before =
    let later : j ≡ suc i = omega (arith, next) in
    ap (λ k. changed_all p behind (drop k changes)) later
    ∙ sym (ap (λ o. on_changed o (λ x. changed_all p x (drop (suc i) changes))) is)
    ∙ sym (ap (changed_all p now) (drop_at changes i one at))
    ∙ before

-- behind all
pub change_all : (p : Profile) (acts now : List Act) (changes : List Change) (i : ℕ) → length changes ≤ i → changed_all p now (drop i changes) ≡ changed_all p acts changes → changed_all p acts changes ≡ Some now
change_all p acts now changes i most before = sym before ∙ ap (changed_all p now) (drop_none changes i most)

-- what is shown, where all changes are allowed
pub shown_is : (p : Profile) (acts now : List Act) (changes : List Change) → changed_all p acts changes ≡ Some now → now ≡ shown_of p acts changes
shown_is p acts now changes is = sym (ap or_none is)

-- no domain yet
pub reads_none : (p : Profile) (made sections : List (List Command)) (own shown : List ℕ) (acts : List (List Act)) (changes : List (List Change)) → ReadsFront p 0 made sections own shown acts changes own shown
reads_none p made sections own shown acts changes = record { reads = λ d k. absurd (omega (arith, k)); own_is = refl; shown_is = refl }

-- the lines of one more
behind_more : (f : ℕ → List ℕ) (k : ℕ) (rest behind : List ℕ) → rest ≡ f k ++ behind → flat_map f (range_with_len 0 k) ++ rest ≡ flat_map f (range_with_len 0 (k + 1)) ++ behind
behind_more f k rest behind is = ap (λ (t : List ℕ). flat_map f (range_with_len 0 k) ++ t) is ∙ sym (append_assoc (flat_map f (range_with_len 0 k)) (f k) behind) ∙ ap (λ (t : List ℕ). t ++ behind) (sym (flat_map_more f k))

-- one domain more
pub reads_more : (p : Profile) (n m : ℕ) (made sections : List (List Command)) (own shown : List ℕ) (acts : List (List Act)) (changes : List (List Change)) (own_rest rest own_behind behind : List ℕ)
    → m ≡ n + 1
    → Reads p (slice_index_or made n []) (slice_index_or sections n []) (slice_index_or acts n []) (slice_index_or changes n [])
    → own_rest ≡ own_lines acts n ++ own_behind
    → rest ≡ shown_lines p acts changes n ++ behind
    → ReadsFront p n made sections own shown acts changes own_rest rest
    → ReadsFront p m made sections own shown acts changes own_behind behind
reads_more p n m made sections own shown acts changes own_rest rest own_behind behind next here own_reads reads before =
    subst (λ k. ReadsFront p k made sections own shown acts changes own_behind behind) (sym next) (record {
      reads = below_more (λ d. Reads p (slice_index_or made d []) (slice_index_or sections d []) (slice_index_or acts d []) (slice_index_or changes d [])) n before.reads here;
      own_is = before.own_is ∙ behind_more (own_lines acts) n own_rest own_behind own_reads;
      shown_is = before.shown_is ∙ behind_more (shown_lines p acts changes) n rest behind reads;
    })

-- all domains
pub reads_all : (p : Profile) (n m : ℕ) (made sections : List (List Command)) (own shown : List ℕ) (acts : List (List Act)) (changes : List (List Change)) (own_rest rest : List ℕ)
    → n ≡ m → own_rest ≡ [] → rest ≡ [] → ReadsFront p n made sections own shown acts changes own_rest rest → ReadsAll p m made sections own shown acts changes
reads_all p n m made sections own shown acts changes own_rest rest whole none nothing before =
    let front = subst (λ k. ReadsFront p k made sections own shown acts changes own_rest rest) whole before in
    record {
      reads = front.reads;
      own_is = front.own_is ∙ ap (λ (t : List ℕ). flat_map (own_lines acts) (range_with_len 0 m) ++ t) none ∙ append-nil (flat_map (own_lines acts) (range_with_len 0 m));
      shown_is = front.shown_is ∙ ap (λ (t : List ℕ). flat_map (shown_lines p acts changes) (range_with_len 0 m) ++ t) nothing ∙ append-nil (flat_map (shown_lines p acts changes) (range_with_len 0 m));
    }

-- one domain more, of whose parts it is known what they are
pub reads_next : (p : Profile) (n : ℕ) (made sections : List (List Command)) (own shown : List ℕ) (acts : List (List Act)) (changes : List (List Change)) (own_rest rest own_behind behind : List ℕ)
    (made_here section_here : List Command) (acts_here shown_here : List Act) (changes_here : List Change)
    → made_here ≡ slice_index_or made n [] → section_here ≡ slice_index_or sections n [] → acts_here ≡ slice_index_or acts n [] → changes_here ≡ slice_index_or changes n []
    → Reads p made_here section_here acts_here changes_here → shown_here ≡ shown_of p acts_here changes_here
    → own_rest ≡ section_lines n (replies_of acts_here) ++ own_behind → rest ≡ section_lines n (replies_of shown_here) ++ behind
    → ReadsFront p n made sections own shown acts changes own_rest rest → ReadsFront p (n + 1) made sections own shown acts changes own_behind behind
reads_next p n made sections own shown acts changes own_rest rest own_behind behind made_here section_here acts_here shown_here changes_here made_is section_is acts_is changes_is here shows own_reads reads before =
    let by_made = subst (λ (x : List Command). Reads p x section_here acts_here changes_here) made_is here in
    let by_section = subst (λ (x : List Command). Reads p (slice_index_or made n []) x acts_here changes_here) section_is by_made in
    let by_acts = subst (λ (x : List Act). Reads p (slice_index_or made n []) (slice_index_or sections n []) x changes_here) acts_is by_section in
    let whole = subst (λ (x : List Change). Reads p (slice_index_or made n []) (slice_index_or sections n []) (slice_index_or acts n []) x) changes_is by_acts in
    let of_shown : shown_here ≡ shown_of p (slice_index_or acts n []) (slice_index_or changes n []) =
    shows ∙ ap (λ (x : List Act). shown_of p x changes_here) acts_is ∙ ap (λ (x : List Change). shown_of p (slice_index_or acts n []) x) changes_is in
    reads_more p n (n + 1) made sections own shown acts changes own_rest rest own_behind behind refl whole
    (own_reads ∙ ap (λ (x : List Act). section_lines n (replies_of x) ++ own_behind) acts_is)
    (reads ∙ ap (λ (x : List Act). section_lines n (replies_of x) ++ behind) of_shown)
    before
