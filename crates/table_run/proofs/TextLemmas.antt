-- A text, from the two structures that are made to its last line.
use Rattle.std.proofs.Common.{◌≡◌, ◌≢◌, inl, inr, ℕ, zero, suc, ◌+◌, ◌-◌, ◌≤◌, false, true, List, [], ◌∷◌, ◌++◌, length, take, get_or, replicate, slice_get, Some, None, refl, ap, sym, ◌∙◌, subst, arith, append_assoc, append-nil}
use Rattle.std.proofs.lemmas.List.{length-map}
use Rattle.model_core.specs.declared.label.Label.{Label}
use Rattle.model_core.specs.declared.entry.Entry.{Entry}
use Rattle.model_core.specs.declared.reply.Reply.{Reply}
use Rattle.model_core.specs.declared.reply.Reply.TheVariants as given
use Rattle.model_core.specs.declared.graph.Value.TheVariants.{Block, Nothing}
use Rattle.model_core.specs.declared.state.Sizes.{Sizes}
use Rattle.model_core.specs.Domains.{IsWithinLimits, domain_at, opening, register, reserve}
use Rattle.model_core.specs.Commands.{key_value}
use Rattle.model_core.specs.History.{IsPrefix, Legal}
use Rattle.weak_laws.specs.Tables.Structures.{Apart, Binding}
use Rattle.weak_laws.specs.Tables.Thinning.{ThinnedBy, WasOutside, state_of}
use Rattle.weak_laws.specs.Tables.Performing.{refusals, full_of}
use Rattle.weak_laws.specs.Tables.Stages.{graph_of, held_in}
use Rattle.weak_laws.proofs.OfTables.StageLemmas.{prefix_trans}
use Rattle.weak_tables.specs.Arrays.{ArrayAnswers}
use Rattle.table_text.specs.declared.version.Version.{Version}
use Rattle.table_text.specs.declared.line.TableLine.{TableLine}
use Rattle.table_text.specs.declared.machine.reply.LineReply.{LineReply}
use Rattle.table_text.specs.Machine.Machine.{MachineAnswers, MachineRuns, TableState, Holds, made_by, all_made, opened}
use Rattle.table_run.specs.Keepers.Keepers.{kept_labels}
use Rattle.table_run.specs.Keepers.Answers.{MakeAnswers}
use Rattle.table_run.specs.Standing.{Places, Shown, IsKnown}
use Rattle.table_run.specs.Running.{LineRuns, LinesRun, LineDone, LineAnswers, HasGiven, TextRuns, RanTo, Begins, rooms_of, all_rooms}
use Rattle.table_text.specs.Machine.Said.{full_in}
use Rattle.table_run.proofs.FreshLemmas.{counted_before, makes_before}
use Rattle.table_run.proofs.KeeperLemmas.{keeper_kept, keeper_new}
use Rattle.table_run.proofs.MachineLemmas.{may_same, may_twice}
use Rattle.table_run.proofs.LinesLemmas.{made-append}
use Rattle.table_run.proofs.RefusalLemmas.{used_up}
use Rattle.table_run.proofs.StandLemmas.{others_clean}

-- lists of nothing
get_none : {A : Type 0} (x : A) (n i : ℕ) → get_or (replicate n x) i x ≡ x
get_none x zero zero = refl
get_none x zero (suc i) = refl
get_none x (suc n) zero = refl
get_none x (suc n) (suc i) = get_none x n i

none_held : (n : ℕ) (k : Label) → Holds (replicate n None) k → ⊥
none_held zero k (zero, at) = cc
none_held zero k (suc i, at) = cc
none_held (suc n) k (zero, at) = cc
none_held (suc n) k (suc i, at) = none_held n k (i, at)

-- nothing is left of nothing
nothing_thinned : (P : Label → Type 0) (a b : List Binding) → ThinnedBy P a b → a ≡ [] → b ≡ []
nothing_thinned P [] b thin none = thin
nothing_thinned P (x ∷ a) b thin none = cc

module _ (z : Sizes) (one : z.domains ≡ 1) where
  -- at the start a register from 1 on holds nothing, and no label was given out
  opening_register : (r : ℕ) → 1 ≤ r → held_in z [] r ≡ Nothing
  opening_register r some = ap (λ (n : ℕ). register (opening (record z { domains = n })) 0 r) one ∙ go r some
    where
      go : (q : ℕ) → 1 ≤ q → get_or (Block (record { domain = 0; serial = 0 }) ∷ replicate 15 Nothing) q Nothing ≡ Nothing
      go zero some = absurd (omega arith)
      go (suc q) some = get_none Nothing 15 q

  pub opening_serial : (domain_at (state_of z []) 0).serial ≡ 0
  opening_serial = ap (λ (n : ℕ). (domain_at (opening (record z { domains = n })) 0).serial) one

module _ (version : Version) (z : Sizes) (limits : IsWithinLimits z) (one : z.domains ≡ 1) (pools : reserve z + z.classes + 32 ≤ z.pools) where
  -- so few labels were given out that nothing is refused
  unrefused : (old new : List Entry) (left_new : ℕ) (rep : Reply) → Legal z new → IsPrefix old new → (domain_at (state_of z new) 0).serial + left_new ≡ 4294967295 → 4294967295 ≤ left_new + 18 → refusals new ≡ refusals old + full_of rep → rep ≡ given.Full → ⊥
  unrefused old new left_new rep legal grows serial few count full =
      let more : refusals new ≡ refusals old + 1 = count ∙ ap (λ (a : Reply). refusals old + full_of a) full in
      let used = used_up z limits old new one legal grows (omega (arith, more)) in
      absurd (omega (arith, used, pools, serial, few))

  pub prepared : (mid new : List Entry) (left_mid left_new : ℕ) (a b : Reply) → (domain_at (state_of z mid) 0).serial + left_mid ≡ 4294967295 → (domain_at (state_of z new) 0).serial + left_new ≡ 4294967295 → 4294967295 ≤ left_mid + 18 → 4294967295 ≤ left_new + 18
      → refusals mid ≡ 0 + full_of a → refusals new ≡ refusals mid + full_of b → MakeAnswers version z [] mid 6 a → ArrayAnswers z mid new 7 16 b → Begins version z new
  prepared mid new left_mid left_new a b serial_mid serial_new few_mid few_new count_a count_b (inr (full, none)) y = absurd (unrefused [] mid left_mid a none.goes.legal none.goes.grows serial_mid few_mid count_a full)
  prepared mid new left_mid left_new a b serial_mid serial_new few_mid few_new count_a count_b (inl x) (inr (full, none)) = absurd (unrefused mid new left_new b none.goes.legal none.goes.grows serial_new few_new count_b full)
  prepared mid new left_mid left_new a b serial_mid serial_new few_mid few_new count_a count_b (inl (root, is_a, t)) (inl (array, is_b, w)) =
      let kept = keeper_kept (WasOutside z mid new) [] (graph_of z mid) (graph_of z new) w.goes.changes version t.shape z.domains root (λ l h. refl) t.keeper in
      let held : (r : ℕ) → r ≢ 6 → r ≢ 7 → r ≢ 8 → r ≢ 9 → r ≢ 10 → held_in z new r ≡ held_in z [] r = λ r six seven eight nine ten. w.keeps r eight nine ten seven ∙ t.keeps r six in
      let p : Places = record { keeper = root; array = array; slots = w.slots } in
      let shown : Shown version z p opened new = record {
        shape = t.shape;
        keeper = kept.keeper;
        array = w.array;
        registers = λ r low high. held r (λ e. absurd (omega arith)) (λ e. absurd (omega arith)) (λ e. absurd (omega arith)) (λ e. absurd (omega arith)) (λ e. absurd (omega arith)) ∙ opening_register z one r low ∙ sym (ap key_value (get_none None 5 (r - 1)));
        bindings_are = nothing_thinned (WasOutside z mid new) _ _ kept.thinned t.empty;
        slots_are = w.empty;
      } in
      let apart : Apart (array ∷ w.slots) (kept_labels version t.shape (graph_of z new) root) = subst (Apart (array ∷ w.slots)) (sym kept.labels) (λ l mine. keeper_new version t.shape z.domains (graph_of z mid) root l t.keeper (w.fresh l mine)) in
      let sixteen : length w.slots ≡ 16 = sym (length-map w.slots _) ∙ ap length w.empty in
      let count : refusals new ≡ 0 = (let first : refusals mid ≡ 0 + 0 = count_a ∙ ap (λ (r : Reply). 0 + full_of r) is_a in let second : refusals new ≡ refusals mid + 0 = count_b ∙ ap (λ (r : Reply). refusals mid + full_of r) is_b in omega (arith, first, second)) in
      record {
        places = p;
        stands = record {
          shown = shown;
          five = refl;
          sixteen = sixteen;
          keeper_held = w.keeps 6 (λ e. absurd (omega arith)) (λ e. absurd (omega arith)) (λ e. absurd (omega arith)) (λ e. absurd (omega arith)) ∙ t.holds;
          array_held = w.holds;
          apart = apart;
          keys = λ k known. absurd (unknown k known);
          ints = tt;
          bare = w.bare;
          others = others_clean z [] new (λ r high. opening_register z one r (omega arith)) (λ r high. held r (λ e. absurd (omega arith)) (λ e. absurd (omega arith)) (λ e. absurd (omega arith)) (λ e. absurd (omega arith)) (λ e. absurd (omega arith))) w.clean;
        };
        none = count;
      }
    where
      unknown : (k : Label) → IsKnown opened k → ⊥
      unknown k (inl held) = none_held 5 k held
      unknown k (inr (inl bound)) = let clash : false ≡ true = bound in cc
      unknown k (inr (inr slot)) = none_held 16 k slot

-- one line more
lines_push : (version : Version) (z : Sizes) (p : Places) (before : List TableLine) (s : TableState) (old : List Entry) (ls : List TableLine) (rs : List LineReply) (t : TableState) (mid : List Entry) (l : TableLine) (a : LineReply) (u : TableState) (new : List Entry)
    → LinesRun version z p before s old ls rs t mid → LineRuns version z p ((before ++ ls) ++ l ∷ []) l t mid a u new → LinesRun version z p before s old (ls ++ l ∷ []) (rs ++ a ∷ []) u new
lines_push version z p before s old [] [] t mid l a u new (same, front) r =
    (u, new, subst (λ (x : TableState × List Entry). LineRuns version z p (before ++ l ∷ []) l x.0 x.1 a u new) (λ i. (same i, front i)) (subst (λ (b : List TableLine). LineRuns version z p (b ++ l ∷ []) l t mid a u new) (append-nil before) r), (refl, refl))
lines_push version z p before s old (x ∷ ls) (b ∷ rs) t mid l a u new (m, h, first, rest) r =
    (m, h, first, lines_push version z p (before ++ x ∷ []) m h ls rs t mid l a u new rest (subst (λ (c : List TableLine). LineRuns version z p (c ++ l ∷ []) l t mid a u new) (sym (append_assoc before (x ∷ []) ls)) r))
lines_push version z p before s old [] (b ∷ rs) t mid l a u new runs r = absurd runs
lines_push version z p before s old (x ∷ ls) [] t mid l a u new runs r = absurd runs

pub ran_none : (version : Version) (z : Sizes) (h : List Entry) → Begins version z h → RanTo version z [] [] h
ran_none version z h b = record {
  runs = record {
    places = b.places;
    first = h;
    begins = b.stands.shown;
    none = b.none;
    state = opened;
    last = h;
    lines_run = (refl, refl);
    within = record { rest = []; appends = sym (append-nil h) };
  };
  given = refl;
  left = opened;
  goes = may_same opened;
  stands = b.stands;
}

pub ran_more : (version : Version) (z : Sizes) (lines : List TableLine) (replies : List LineReply) (now : List Entry) (x : RanTo version z lines replies now) (l : TableLine) (a : LineReply) (new : List Entry) → LineDone version z x.runs.places (lines ++ l ∷ []) l x.left now a new → RanTo version z (lines ++ l ∷ []) (replies ++ a ∷ []) new
ran_more version z lines replies now x l a new y =
    let r = x.runs in record {
      runs = record {
        places = r.places;
        first = r.first;
        begins = r.begins;
        none = r.none;
        state = y.after;
        last = y.front;
        lines_run = lines_push version z r.places [] opened r.first lines replies r.state r.last l a y.after y.front r.lines_run (record {
          step = record { left = y.runs.step.left; goes = may_twice r.state x.left y.runs.step.left x.goes y.runs.step.goes; does = y.runs.step.does };
          fresh = makes_before z r.last now l a y.after r.within y.runs.fresh;
          counted = counted_before version z r.places r.last now l a y.front r.within y.runs.counted;
          grows = prefix_trans r.last now y.front r.within y.runs.grows;
          shown = y.runs.shown;
          refused = y.runs.refused ∙ ap (λ (n : ℕ). n + full_in a) x.given;
        });
        within = y.until;
      };
      given = y.given;
      left = y.left;
      goes = y.goes;
      stands = y.stands;
    }

pub ran_all : (version : Version) (z : Sizes) (lines all : List TableLine) (replies : List LineReply) (now : List Entry) → lines ≡ all → RanTo version z lines replies now → TextRuns version z all replies now
ran_all version z lines all replies now same x = subst (λ (ls : List TableLine). TextRuns version z ls replies now) same x.runs

-- the next line, and what lines need
pub take_more : (ls : List TableLine) (i : ℕ) (l : TableLine) → Some l ≡ slice_get ls i → take (i + 1) ls ≡ take i ls ++ l ∷ []
take_more ls i l at = ap (λ (n : ℕ). take n ls) (let same : i + 1 ≡ suc i = omega arith in same) ∙ go ls i at
  where
    go : (xs : List TableLine) (j : ℕ) → Some l ≡ slice_get xs j → take (suc j) xs ≡ take j xs ++ l ∷ []
    go [] zero at = cc
    go [] (suc j) at = cc
    go (x ∷ xs) zero at = let same : l ≡ x = cc in ap (λ (y : TableLine). y ∷ []) (sym same)
    go (x ∷ xs) (suc j) at = ap (λ (ys : List TableLine). x ∷ ys) (go xs j at)

pub take_all : (ls : List TableLine) (i : ℕ) → length ls ≤ i → take i ls ≡ ls
take_all [] zero few = refl
take_all [] (suc i) few = refl
take_all (l ∷ ls) zero few = absurd (omega arith)
take_all (l ∷ ls) (suc i) few = ap (λ (xs : List TableLine). l ∷ xs) (take_all ls i (omega arith))

pub made_before : (version : Version) (ls : List TableLine) (i : ℕ) (l : TableLine) → Some l ≡ slice_get ls i → all_made version (take i ls) + made_by version l ≤ all_made version ls
made_before version [] zero l at = cc
made_before version [] (suc i) l at = cc
made_before version (x ∷ ls) zero l at = let same : made_by version l ≡ made_by version x = ap (made_by version) (let is : l ≡ x = cc in is) in omega (arith, same)
made_before version (x ∷ ls) (suc i) l at = let rest = made_before version ls i l at in omega (arith, rest)

pub rooms_before : (ls : List TableLine) (i : ℕ) (l : TableLine) → Some l ≡ slice_get ls i → all_rooms (take i ls) + rooms_of l ≤ all_rooms ls
rooms_before [] zero l at = cc
rooms_before [] (suc i) l at = cc
rooms_before (x ∷ ls) zero l at = let same : rooms_of l ≡ rooms_of x = ap rooms_of (let is : l ≡ x = cc in is) in omega (arith, same)
rooms_before (x ∷ ls) (suc i) l at = let rest = rooms_before ls i l at in omega (arith, rest)

pub rooms-append : (a : List TableLine) (l : TableLine) → all_rooms (a ++ l ∷ []) ≡ all_rooms a + rooms_of l
rooms-append [] l = omega arith
rooms-append (x ∷ a) l = let rest = rooms-append a l in omega (arith, rest)

pub take_none : (ls : List TableLine) → take 0 ls ≡ []
take_none [] = refl
take_none (l ∷ ls) = refl

-- the next line, from a state in which the heap stands
pub ran_line : (version : Version) (z : Sizes) (all : List TableLine) (i : ℕ) (l : TableLine) (replies : List LineReply) (now new : List Entry) (a : LineReply) (left : ℕ) → Some l ≡ slice_get all i → (x : RanTo version z (take i all) replies now) → HasGiven version left (take i all) → LineAnswers version z left l now a new → RanTo version z (take (i + 1) all) (replies ++ a ∷ []) new
ran_line version z all i l replies now new a left at x given answers =
    subst (λ (ls : List TableLine). RanTo version z ls (replies ++ a ∷ []) new) (sym (take_more all i l at)) (ran_more version z (take i all) replies now x l a new (answers x.runs.places x.left (take i all) x.stands given))

-- what is known of labels and room, with that line's share
pub made_more : (version : Version) (all : List TableLine) (i : ℕ) (l : TableLine) → Some l ≡ slice_get all i → all_made version (take (i + 1) all) ≡ all_made version (take i all) + made_by version l
made_more version all i l at = ap (all_made version) (take_more all i l at) ∙ made-append version (take i all) l

pub rooms_more : (all : List TableLine) (i : ℕ) (l : TableLine) → Some l ≡ slice_get all i → all_rooms (take (i + 1) all) ≡ all_rooms (take i all) + rooms_of l
rooms_more all i l at = ap all_rooms (take_more all i l at) ∙ rooms-append (take i all) l

-- the machine may give these replies to these lines
lines_answered : (version : Version) (z : Sizes) (p : Places) (before : List TableLine) (s : TableState) (old : List Entry) (ls : List TableLine) (rs : List LineReply) (t : TableState) (new : List Entry) → LinesRun version z p before s old ls rs t new → (states : List TableState) × MachineRuns version z before s ls rs states
lines_answered version z p before s old [] [] t new runs = ([], tt)
lines_answered version z p before s old [] (a ∷ rs) t new runs = absurd runs
lines_answered version z p before s old (l ∷ ls) [] t new runs = absurd runs
lines_answered version z p before s old (l ∷ ls) (a ∷ rs) t new (u, h, first, rest) =
    let later = lines_answered version z p (before ++ l ∷ []) u h ls rs t new rest in
    (u ∷ later.0, (first.step, later.1))

pub text_answered : (version : Version) (z : Sizes) (ls : List TableLine) (rs : List LineReply) (h : List Entry) → TextRuns version z ls rs h → MachineAnswers version z ls rs
text_answered version z ls rs h runs =
    let t = lines_answered version z runs.places [] opened runs.first ls rs runs.state runs.last runs.lines_run in
    record { states = t.0; runs = t.1 }
