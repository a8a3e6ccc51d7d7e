-- The line of a put, behind the integer that it puts.
use Rattle.std.proofs.Common.{◌≡◌, ◌≢◌, ⊎_elim, inl, inr, ℕ, ◌+◌, ◌≤◌, ℤ, List, refl, ap, sym, ◌∙◌, subst, arith}
use Rattle.model_core.specs.declared.label.Label.{Label}
use Rattle.model_core.specs.declared.command.Command.TheVariants.{PutInt}
use Rattle.model_core.specs.declared.entry.Entry.{Entry}
use Rattle.model_core.specs.declared.graph.Value.{Value}
use Rattle.model_core.specs.declared.graph.Value.TheVariants.{Block, Int, Nothing}
use Rattle.model_core.specs.declared.reply.Reply.{Reply}
use Rattle.model_core.specs.declared.reply.Reply.TheVariants as given
use Rattle.model_core.specs.declared.state.Sizes.{Sizes}
use Rattle.model_core.specs.Domains.{IsWithinLimits}
use Rattle.model_core.specs.History.{IsPrefix}
use Rattle.table_text.specs.declared.line.TableLine.{TableLine}
use Rattle.table_text.specs.declared.line.TableLine.TheVariants as line_of
use Rattle.table_text.specs.Machine.Said.{said}
use Rattle.weak_laws.specs.Maps.Calls.{Looks, PerformedBy, PutsOrFull}
use Rattle.weak_laws.specs.Maps.Steps.{OthersRespect}
use Rattle.weak_laws.proofs.OfMaps.CallLemmas.{put_step}
use Rattle.weak_laws.proofs.OfMaps.FrontLemmas.{prefix_same, prefix_trans}
use Rattle.weak_laws.proofs.OfMaps.OwnLemmas.{changes_behind, looks_twice}
use Rattle.weak_maps.specs.Beside.{held_by, refusals_by}
use Rattle.weak_maps.specs.Crowds.{CrowdedAt, IsCrowded, PutCounts, RefusedAlone, made_by}
use Rattle.weak_maps.specs.Fields.{IsBeside}
use Rattle.weak_maps.specs.Guards.{Guards, PutGuards}
use Rattle.weak_maps.specs.Returns.{PutReturns, PutsAt}
use Rattle.weak_maps.specs.Walks.{OwnQuiet}
use Rattle.weak_maps.proofs.BesideLemmas.{set_here, set_other, sixteen}
use Rattle.weak_maps.proofs.GetLemmas.{grows_by}
use Rattle.weak_maps.proofs.GuardLemmas.{guards_later, guards_quiet, guards_then, guards_twice, quiet_by, quiet_same}
use Rattle.weak_maps.proofs.StayLemmas.{quiet_looks, respects_within}
use Rattle.table_sections.specs.Lines.{IsKeyRegister}
use Rattle.table_sections.specs.Sections.{LeavesClean, LineDone, OnMap, PutMakes, PutRefused, PutsInteger, SectionGuards}
use Rattle.table_sections.specs.Slots.{SparesBlocks}
use Rattle.table_sections.proofs.LineLemmas.{guarded_all, line_done, on_after}
use Rattle.table_sections.proofs.SpareLemmas.{spares_quiet, spares_twice, spares_within}

-- how many labels a put takes at most
pub put_labels : (labels left refused now : ℕ) (r : Reply) → PutCounts labels left refused now r → labels ≤ left + 7
put_labels labels left refused now given.Done x = x.2
put_labels labels left refused now given.Full x = ⊎_elim (λ y. let few = y.2 in omega (arith, few)) (λ y. let all = y.1 in omega (arith, all)) x
put_labels labels left refused now given.BadType x = let same = x.1 in omega (arith, same)
put_labels labels left refused now r x = absurd x

-- so many labels are so many blocks
pub put_counts : (labels left refused now made made_now : ℕ) (r : Reply) → made + labels ≡ 4294967295 → made_now + left ≡ 4294967295 → PutCounts labels left refused now r → PutCounts made_now made refused now r
put_counts labels left refused now made made_now given.Done first last x = let low = x.1 in let high = x.2 in (x.0, omega (arith, first, last, low), omega (arith, first, last, high))
put_counts labels left refused now made made_now given.Full first last x =
    ⊎_elim (λ y. let low = y.1 in let high = y.2 in inl (y.0, omega (arith, first, last, low), omega (arith, first, last, high))) (λ y. let all = y.1 in inr (y.0, omega (arith, first, last, all))) x
put_counts labels left refused now made made_now given.BadType first last x = let same = x.1 in (x.0, omega (arith, first, last, same))
put_counts labels left refused now made made_now r first last x = absurd x

-- the parts of a put, by what the register of its key holds: what it keeps, spares and leaves clean
module _ (z : Sizes) (d : ℕ) (old new : List Entry) (root : Label) where
  put_keeps : (key : Value) (v : ℤ) (r : Reply) → PutReturns z d old new root key (Int v) r → (i : ℕ) → IsBeside i → held_by z d new i ≡ held_by z d old i
  put_keeps (Block k) v r x i beside = x.1.keeps i beside
  put_keeps (Int j) v r x i beside = ap (λ (h : List Entry). held_by z d h i) x.1
  put_keeps Nothing v r x i beside = ap (λ (h : List Entry). held_by z d h i) x.1

  put_clean : (key : Value) (v : ℤ) (r : Reply) → PutReturns z d old new root key (Int v) r → LeavesClean z d old new
  put_clean (Block k) v r x i low high none = x.1.clean i low high
  put_clean (Int j) v r x i low high none = ap (λ (h : List Entry). held_by z d h i) x.1 ∙ none
  put_clean Nothing v r x i low high none = ap (λ (h : List Entry). held_by z d h i) x.1 ∙ none

  put_spares : (line : TableLine) (key : Value) (v : ℤ) (r : Reply) → PutReturns z d old new root key (Int v) r → SparesBlocks z root d old line new
  put_spares line (Block k) v r x = spares_within z root d line old new x.1.within
  put_spares line (Int j) v r x = spares_quiet z root d line old new (quiet_same z d old new x.1)
  put_spares line Nothing v r x = spares_quiet z root d line old new (quiet_same z d old new x.1)

module _ (z : Sizes) (limits : IsWithinLimits z) (d : ℕ) (old mid new : List Entry) (r : ℕ) (v : ℤ) (first answer : Reply) (small : IsKeyRegister r) (p : PerformedBy z d old mid (PutInt 0 v) first) (later : IsPrefix mid new)
    (made : made_by z d mid ≡ made_by z d old) (refused : refusals_by d mid ≡ refusals_by d old) where
  before : IsPrefix old mid
  before = grows_by z d old mid (PutInt 0 v) first p

  quiet : OwnQuiet z d old mid
  quiet = quiet_by z d old mid (PutInt 0 v) first p (λ s. refl) refl

  others_kept : (i : ℕ) → i ≢ 0 → held_by z d mid i ≡ held_by z d old i
  others_kept = set_other z d old mid 0 (Int v) (put_step z d old mid first 0 v p).1

  quiet_guards : (root : Label) → Guards z root d old old mid
  quiet_guards root = guards_quiet z root d old old mid quiet

  on_mid : (root : Label) → OnMap z root d old → OthersRespect z root d old mid → OnMap z root d mid
  on_mid root on others = on_after z root d old mid before (guarded_all z root d old mid (quiet_guards root) others) (others_kept 6 (λ e. absurd (omega (arith, e)))) on

  put_guards : PutGuards z d mid new 6 → SectionGuards z d old new
  put_guards guards root on =
      guards_twice z root d old old mid new later (quiet_guards root)
      (guards_then z root d old mid new (λ others. let there = on_mid root on others in guards_later z root d old mid mid new before (guards root there.holds there.map there.placed)))

  module _ (root : Label) where
    looks : Looks z root d old mid
    looks = quiet_looks z root d old mid quiet

    puts_since : (k : Label) → PutsOrFull z root d mid new k (Int v) answer → PutsOrFull z root d old new k (Int v) answer
    puts_since k x = ⊎_elim (λ done. inl (done.0, (done.1.0, changes_behind z root d old mid new k _ _ before looks later done.1.1))) (λ full. inr (full.0, looks_twice z root d old mid new later looks full.1)) x

    crowded_since : (k : Label) → IsCrowded z d mid new root k → IsCrowded z d old new root k
    crowded_since k x = record {
      spent = x.spent;
      begins = prefix_trans old mid x.spent before x.begins;
      made = x.made ∙ ap (λ (n : ℕ). n + 7) made;
      front = x.front;
      since = x.since;
      until = x.until;
      other = x.other;
      way = x.way;
    }

    module _ (others : OthersRespect z root d mid new) (there : OnMap z root d mid) (crowded : CrowdedAt z d mid new 6 r answer) (alone : RefusedAlone z d mid new 6 r answer) where
      refused_since : (k : Label) → held_by z d mid r ≡ Block k → answer ≡ given.Full → PutRefused z root d old new k
      refused_since k held full = record {
        crowded = λ same. crowded_since k (crowded root k there.holds held there.map there.placed others full (same ∙ sym refused));
        alone = λ leave.
            alone root k there.holds held there.map there.placed others (λ f e a b other. leave f e (prefix_trans old mid f before a) b other) full
            ∙ ap (λ (n : ℕ). n + 1) refused;
      }

      puts_integer : (key : Value) → held_by z d mid r ≡ key → PutReturns z d mid new root key (Int v) answer → PutsInteger z root d old new key v answer
      puts_integer (Block k) held x = (puts_since k x.0, refused_since k held)
      puts_integer (Int j) held x = (x.0, subst (OwnQuiet z d old) (sym x.1) quiet)
      puts_integer Nothing held x = (x.0, subst (OwnQuiet z d old) (sym x.1) quiet)

  pub put_done : PutGuards z d mid new 6 → PutsAt z d mid new 6 r 0 answer → CrowdedAt z d mid new 6 r answer → RefusedAlone z d mid new 6 r answer → PutMakes z d old new (said answer) → LineDone z d old (line_of.Put r v) (said answer) new
  put_done guards puts crowded alone makes =
      line_done z d old new (line_of.Put r v) (said answer) (prefix_trans old mid new before later) (put_guards guards) makes
      (λ root on others.
      let there = on_mid root on (respects_within z root d old new old mid (prefix_same old) later others) in
      let tail = respects_within z root d old new mid new before (prefix_same new) others in
      let low = small.0 in
      let value : held_by z d mid 0 ≡ Int v = set_here z d old mid 0 (Int v) (put_step z d old mid first 0 v p).1 (sixteen z d old mid (PutInt 0 v) first p limits) (omega arith) in
      let key : held_by z d mid r ≡ held_by z d old r = others_kept r (λ e. absurd (omega (arith, low, e))) in
      let x : PutReturns z d mid new root (held_by z d old r) (Int v) answer = subst (λ (w : Value × Value). PutReturns z d mid new root w.0 w.1 answer) (λ i. (key i, value i)) (puts root there.holds there.map there.placed tail) in (
        (answer, puts_integer root tail there crowded alone (held_by z d old r) key x, refl),
        (λ i between beside other. put_keeps z d mid new root (held_by z d old r) v answer x i beside ∙ others_kept i between),
        spares_twice z root d (line_of.Put r v) old mid new before later (spares_quiet z root d (line_of.Put r v) old mid quiet) (put_spares z d mid new root (line_of.Put r v) (held_by z d old r) v answer x),
        (λ i over below none. put_clean z d mid new root (held_by z d old r) v answer x i over below (others_kept i (λ e. absurd (omega (arith, over, e))) ∙ none)),
      )) (omega arith)
