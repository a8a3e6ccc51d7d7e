-- Fronts of a call: which entries are its own, and which are others'.
use Rattle.std.proofs.Common.{◌≡◌, ◌⊎◌, inl, inr, ℕ, true, false, List, [], ◌∷◌, ◌++◌, refl, ap, sym, ◌∙◌, subst, append_assoc, append-nil}
use Rattle.model_core.specs.declared.entry.Entry.{Entry}
use Rattle.model_core.specs.Fronts.{NoneOf}
use Rattle.model_core.specs.History.{IsPrefix, is_entry_of}
use Rattle.model_core.proofs.Histories.FrontLemmas.{none_cons}

pub prefix_same : (h : List Entry) → IsPrefix h h
prefix_same h = record { rest = []; appends = sym (append-nil h) }

pub prefix_more : (h k : List Entry) → IsPrefix h (h ++ k)
prefix_more h k = record { rest = k; appends = refl }

pub prefix_trans : (a b c : List Entry) → IsPrefix a b → IsPrefix b c → IsPrefix a c
prefix_trans a b c x y = record { rest = x.rest ++ y.rest; appends = y.appends ∙ (ap (λ (h : List Entry). h ++ y.rest) x.appends ∙ append_assoc a x.rest y.rest) }

-- a front is before each front that it begins with one entry more
pub prefix_before : (front : List Entry) (e : Entry) (new : List Entry) → IsPrefix (front ++ e ∷ []) new → IsPrefix front new
prefix_before front e new until = prefix_trans front (front ++ e ∷ []) new (prefix_more front (e ∷ [])) until

-- what holds at a front, and goes on over each entry, holds at each later front
pub walk_along : (P : List Entry → Type 0) (old new : List Entry) → IsPrefix old new
    → ((front : List Entry) (e : Entry) → IsPrefix old front → IsPrefix (front ++ e ∷ []) new → P front → P (front ++ e ∷ [])) → P old → P new
walk_along P old new grows each p = go grows.rest old (prefix_same old) grows.appends p
  where
    go : (rest : List Entry) (front : List Entry) → IsPrefix old front → new ≡ front ++ rest → P front → P new
    go [] front since whole here = subst P (sym (whole ∙ append-nil front)) here
    go (e ∷ rest) front since whole here =
        let split : new ≡ (front ++ e ∷ []) ++ rest = whole ∙ sym (append_assoc front (e ∷ []) rest) in
        go rest (front ++ e ∷ []) (prefix_trans old front (front ++ e ∷ []) since (prefix_more front (e ∷ []))) split (each front e since (record { rest = rest; appends = split }) here)

pub drop_front : (a b c : List Entry) → a ++ b ≡ a ++ c → b ≡ c
drop_front [] b c e = e
drop_front (x ∷ a) b c e = drop_front a b c cc

-- of an entry in a list that is cut in two, it stands in the first part or in the second
cut : (a b x : List Entry) (e : Entry) (y : List Entry) → x ++ e ∷ y ≡ a ++ b → ((u : List Entry) × (a ≡ x ++ e ∷ u)) ⊎ ((v : List Entry) × (x ≡ a ++ v))
cut [] b x e y split = inr (x, refl)
cut (c ∷ a) b [] e y split = let same : e ≡ c = cc in inl (a, ap (λ (z : Entry). z ∷ a) (sym same))
cut (c ∷ a) b (d ∷ x) e y split = go (cut a b x e y cc)
  where
    head : d ≡ c
    head = cc

    go : ((u : List Entry) × (a ≡ x ++ e ∷ u)) ⊎ ((v : List Entry) × (x ≡ a ++ v)) → ((u : List Entry) × (c ∷ a ≡ (d ∷ x) ++ e ∷ u)) ⊎ ((v : List Entry) × (d ∷ x ≡ (c ∷ a) ++ v))
    go (inl (u, is)) = inl (u, (λ i. sym head i ∷ is i))
    go (inr (v, is)) = inr (v, (λ i. head i ∷ is i))

-- an entry of a history stands before a front of it, or behind
pub before_or_behind : (now new front : List Entry) (e : Entry) → IsPrefix now new → IsPrefix (front ++ e ∷ []) new → IsPrefix (front ++ e ∷ []) now ⊎ IsPrefix now front
before_or_behind now new front e grows until = go (cut now grows.rest front e until.rest (sym whole))
  where
    whole : now ++ grows.rest ≡ front ++ e ∷ until.rest
    whole = sym grows.appends ∙ (until.appends ∙ append_assoc front (e ∷ []) until.rest)

    go : ((u : List Entry) × (now ≡ front ++ e ∷ u)) ⊎ ((v : List Entry) × (front ≡ now ++ v)) → IsPrefix (front ++ e ∷ []) now ⊎ IsPrefix now front
    go (inl (u, is)) = inl (record { rest = u; appends = is ∙ sym (append_assoc front (e ∷ []) u) })
    go (inr (v, is)) = inr (record { rest = v; appends = is })

-- an entry in a stretch without entries of a domain is none of that domain
none_of_it : (d : ℕ) (a x : List Entry) (e : Entry) (y : List Entry) → NoneOf d a → a ≡ x ++ e ∷ y → is_entry_of d e ≡ false
none_of_it d [] [] e y none split = cc
none_of_it d [] (c ∷ x) e y none split = cc
none_of_it d (b ∷ a) [] e y none split = let same : b ≡ e = cc in ap (is_entry_of d) (sym same) ∙ (none_cons d b a none).0
none_of_it d (b ∷ a) (c ∷ x) e y none split = none_of_it d a x e y (none_cons d b a none).1 cc

pub other_between : (d : ℕ) (old between front : List Entry) (e : Entry) → NoneOf d between → IsPrefix old front → IsPrefix (front ++ e ∷ []) (old ++ between) → is_entry_of d e ≡ false
other_between d old between front e none since until =
    none_of_it d between since.rest e until.rest none
    (drop_front old between (since.rest ++ e ∷ until.rest) (until.appends ∙ (append_assoc front (e ∷ []) until.rest ∙ (ap (λ (h : List Entry). h ++ e ∷ until.rest) since.appends ∙ append_assoc old since.rest (e ∷ until.rest)))))

-- the last of a stretch of entries whose others are not a domain's: an entry of that domain in it is the last
last_is : (d : ℕ) (a : List Entry) (c : Entry) (x : List Entry) (e : Entry) (y : List Entry) → NoneOf d a → is_entry_of d e ≡ true → a ++ c ∷ [] ≡ x ++ e ∷ y → (x ≡ a) × (e ≡ c)
last_is d [] c [] e y none own split = (refl, cc)
last_is d [] c (b ∷ []) e y none own split = cc
last_is d [] c (b ∷ b2 ∷ x) e y none own split = cc
last_is d (b ∷ a) c [] e y none own split =
    let same : b ≡ e = cc in let clash : true ≡ false = sym own ∙ (ap (is_entry_of d) (sym same) ∙ (none_cons d b a none).0) in cc
last_is d (b ∷ a) c (f ∷ x) e y none own split =
    let rest = last_is d a c x e y (none_cons d b a none).1 own cc in
    let head : f ≡ b = cc in
    ((λ i. head i ∷ rest.0 i), rest.1)

pub own_is_last : (d : ℕ) (old between : List Entry) (c : Entry) (front : List Entry) (e : Entry) → NoneOf d between → IsPrefix old front → IsPrefix (front ++ e ∷ []) (old ++ between ++ c ∷ []) → is_entry_of d e ≡ true
    → (front ≡ old ++ between) × (e ≡ c)
own_is_last d old between c front e none since until own =
    let split : between ++ c ∷ [] ≡ since.rest ++ e ∷ until.rest = drop_front old (between ++ c ∷ []) (since.rest ++ e ∷ until.rest)
    (sym (append_assoc old between (c ∷ [])) ∙ (until.appends ∙ (append_assoc front (e ∷ []) until.rest ∙ (ap (λ (h : List Entry). h ++ e ∷ until.rest) since.appends ∙ append_assoc old since.rest (e ∷ until.rest))))) in
    let last = last_is d between c since.rest e until.rest none own split in
    (since.appends ∙ ap (λ (h : List Entry). old ++ h) last.0, last.1)

-- an entry before the end of a stretch is its last, or stands before that
pub last_or_before : (h : List Entry) (c : Entry) (front : List Entry) (e : Entry) → IsPrefix (front ++ e ∷ []) (h ++ c ∷ []) → IsPrefix (front ++ e ∷ []) h ⊎ ((front ≡ h) × (e ≡ c))
last_or_before h c front e until = go (cut h (c ∷ []) front e until.rest (sym whole))
  where
    whole : h ++ c ∷ [] ≡ front ++ e ∷ until.rest
    whole = until.appends ∙ append_assoc front (e ∷ []) until.rest

    end : (v : List Entry) → c ∷ [] ≡ v ++ e ∷ until.rest → (v ≡ []) × (e ≡ c)
    end [] is = (refl, cc)
    end (a ∷ []) is = cc
    end (a ∷ b ∷ v) is = cc

    go : ((u : List Entry) × (h ≡ front ++ e ∷ u)) ⊎ ((v : List Entry) × (front ≡ h ++ v)) → IsPrefix (front ++ e ∷ []) h ⊎ ((front ≡ h) × (e ≡ c))
    go (inl (u, is)) = inl (record { rest = u; appends = is ∙ sym (append_assoc front (e ∷ []) u) })
    go (inr (v, is)) =
        let t = end v (drop_front h (c ∷ []) (v ++ e ∷ until.rest) (whole ∙ (ap (λ (x : List Entry). x ++ e ∷ until.rest) is ∙ append_assoc h v (e ∷ until.rest)))) in
        inr (is ∙ (ap (λ (x : List Entry). h ++ x) t.0 ∙ append-nil h), t.1)
