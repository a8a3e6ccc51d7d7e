-- The return of a pool in which nothing is left keeps the rule.
use Rattle.std.proofs.Common.{◌≡◌, ◌≢◌, ℕ, ◌+◌, ◌*◌, ◌<◌, ◌≤◌, true≢false, List, get_or, set, None, sym, refl, ap, ◌∙◌, subst, inl, inr, ⊎_elim, arith, length-set}
use Rattle.std.proofs.lemmas.Option.{none-some}
use mathlib.Core.Option.{some}
use lib.ListN.{get_elem?}
use Rattle.atomic_table.specs.Table.{keeps}
use Rattle.model_core.specs.declared.entry.Entry.{Entry}
use Rattle.heap_rule.specs.declared.view.Reaping.TheVariants.{Outside}
use Rattle.heap_rule.specs.declared.config.Config.{Config}
use Rattle.heap_rule.specs.declared.view.DomainView.{DomainView}
use Rattle.heap_rule.specs.Beside.{RunsBeside}
use Rattle.heap_rule.specs.Cycles.{IsCollecting, IsIdle, Knowing}
use Rattle.heap_rule.specs.Layout.{cursor, listed}
use Rattle.heap_rule.specs.Phases.{Staged}
use Rattle.heap_rule.specs.Pools.{Covered, Holder, Hunter, Hunts, Resting, Stock, Tenancy, limit_of, no_listing}
use Rattle.heap_rule.specs.Raw.{CanLeave, Closes, Leaves, MayStore}
use Rattle.heap_rule.specs.Rule.{Account, Good, Rule, Sharing, state_of}
use Rattle.heap_rule.specs.Views.{one}
use Rattle.heap_rule.proofs.Holders.{NotOf, found_agrees, free_later, hunter_agree, making_agrees, nobody_not, owned_not, same_over, stock_self}
use Rattle.heap_rule.proofs.Keeps.{whole_stays, Words, knows_front, my_good, opened_words, owes_as, phases_words, remakes, room_words}
use Rattle.heap_rule.proofs.PauseFacts.{not_both}
use Rattle.heap_rule.proofs.Sharings.{leading_words}
use Rattle.step_marks.specs.Marking.Looks.{with_share}
use Rattle.step_marks.proofs.OfMarking.Learning.{even, none_runs, rests_here, waits}
use Rattle.step_marks.proofs.OfMarking.Pausing.{paused_on}
use Rattle.step_marks.proofs.OfMarking.Plain.{share_closes}
use Rattle.step_sweep.specs.Returning.{ReturnMay, ReturnTold}
use Rattle.step_sweep.proofs.VoidSteps.{no_leader, not_whole, void_known}
use Rattle.step_sweep.proofs.Returned.{agrees, calm, collecting, cycle', drawers', drawn_was, full', grid', is_own, knowing_other, knowing_own, listed', no_prepared, other_word, own_was, owned_was, pools', reserved', same_cursor, same_cycle, share', t', words', sweeps', reaps_else}

module _ (k : Config) (s : Words) (r : Rule k s) (id : ℕ) (hist : List Entry) (x : DomainView) (at : get_elem? s.views id ≡ some (one k hist x)) (word pool class : ℕ) (may : ReturnMay k x word pool class) where
  open r.account use {tenancy as T, cycling as c}
  open x use {own.{number as d}}

  abbrev after : Tenancy
  after = t' k s r id hist x at word pool class may

  abbrev ws : List ℕ
  ws = words' k s r id hist x at word pool class may

  abbrev all' : Account
  all' = record r.account { tenancy = after }

  abbrev y : DomainView
  y = with_share x (share' k s r id hist x at word pool class may)

  good : Good k r.account s.words x
  good = my_good k s r id hist x at

  collects : IsCollecting x.seen.stage
  collects = collecting k s r id hist x at word pool class may

  other : (j : ℕ) → j ≢ 11 + k.pools + pool → get_or ws j 0 ≡ get_or s.words j 0
  other = other_word k s r id hist x at word pool class may

  want : get_or ws 0 0 ≡ get_or s.words 0 0
  want = other 0 (λ e. omega arith)

  counts : (listed ws ≡ listed s.words) × (cursor ws ≡ cursor s.words)
  counts = ((agrees k s r id hist x at word pool class may).count, same_cursor k s r id hist x at word pool class may)

  grows : cursor s.words ≤ cursor ws
  grows = let e : cursor ws ≡ cursor s.words = counts.1 in let n : ℕ = cursor s.words in let n' : ℕ = cursor ws in let f : n' ≡ n = e in let l : n ≤ n' = omega arith in l

  low_kept : cursor s.words ≤ limit_of k (listed s.words) → cursor ws ≤ limit_of k (listed ws)
  low_kept low = subst (λ (m : ℕ × ℕ). m.0 ≤ limit_of k m.1) (λ i. (sym counts.1 i, sym counts.0 i)) low

  even_here : (j : ℕ) → r.account.pause.phase ≡ j * 2 + 1 → ⊥
  even_here j e = not_both r.account.pause.phase (even k s r id hist x at collects) (j, e)

  -- no pool is listed
  none_listed : listed ws ≡ 0
  none_listed = counts.0 ∙ (good.resting.lists no_listing may.void).count

  -- so the list isn't whole
  covered' : Covered k r.account.pause after ws
  covered' whole = absurd (not_whole k s r id hist x at may.returns ws none_listed whole)

  -- and who knows of it knows that
  lists_void : (z : DomainView) → Staged r.account.pause z → Resting k s.words z → Resting k ws z
  lists_void z staged rest = let n = no_leader k s r id hist x at may.returns z staged in record { hunt = rest.hunt; free = rest.free; spare = rest.spare; lists = λ l e. void_known k s.words ws z.own.number z.seen.stage l none_listed n.0 n.1 (rest.lists l e) }

  hunter' : Hunter k after ws y
  hunter' = let h = good.hunter in let was = owned_was k s r id hist x at word pool class may in let same = agrees k s r id hist x at word pool class may in let none = no_prepared k s r id hist x at word pool class may in record {
    hunt = subst (Hunts k after ws d) (sym (rests_here k s r id hist x at collects x good.staged good.resting)) tt;
    drawn_alone = λ q e. h.drawn_alone q (drawn_was k s r id hist x at word pool class may q d e);
    taken = λ q cl slot is inside before e. h.taken q cl slot (was q d cl is).1 inside before (sym (same.heap _ (omega arith)) ∙ e);
    free = λ m e. free_later k s.words ws counts.0 grows m (h.free m e);
    spare = λ u e. absurd (none-some u (sym (good.resting.spare (λ runs. subst IsCollecting runs collects tt)) ∙ e));
    holds = λ cl a few e. absurd (none a d (h.holds cl a few e).0);
    prepared = λ q cl slot is inside e. absurd (none _ d e);
    claims = h.claims;
    supply = λ b few some. absurd (let none : T.stock.drawn d b ≡ 0 = ap (λ (z : Stock). z.drawn d b) (r.whole.unused (calm k s r id hist x at word pool class may)) in let n : ℕ = T.stock.drawn d b in let e : n ≡ 0 = none in let p : 0 < n = some in omega arith);
  }

  hunters : (z : DomainView) → z.own.number ≢ d → Good k r.account s.words z → Hunter k after ws z
  hunters z differs g = hunter_agree k T after s.words ws (agrees k s r id hist x at word pool class may) z grows
      (same_over T pool _ T.asking T.fresh T.stock z.own.number (subst (λ (h : Holder). NotOf h z.own.number) (sym (is_own k s r id hist x at word pool class may)) (owned_not d class z.own.number (λ e. differs (sym e)))) (nobody_not z.own.number) refl (λ b. refl) (stock_self T.stock z.own.number)) g.hunter

  -- nobody runs
  running' : (z : DomainView) → Good k r.account s.words z → RunsBeside k r.account.live after.holder c.armed c.past c.paint.marks.marked ws z.own.number z.seen.stage z.seen.share
  running' z h = paused_on k r.account.pause c r.whole.cycle.told (none_runs k s r id hist x at collects) r.account.live r.account.live T.holder after.holder c.paint.marks.marked c.paint.marks.marked s.words ws z h.staged h.sharing.running

  sharing' : Sharing k all' ws d x.own.registers x.own.finalisers x.own.ephemerons.items x.seen.stage y.seen.share
  sharing' =
      let g = good.sharing in
      let l = leading_words c s.words ws d x.seen.stage x.seen.share (same_cycle k s r id hist x at word pool class may) g.leading in
      let up = waits k s r id hist x at collects in record {
        telling = record { owes = g.telling.owes; seen = g.telling.seen; fresh = λ gone. absurd (true≢false (sym gone ∙ up)); forgotten = λ gone. absurd (true≢false (sym gone ∙ up)); colours = g.telling.colours };
        leading = record { changed = l.changed; found_blocks = l.found_blocks; found_words = l.found_words; rotated = l.rotated; turned = l.turned; pass = l.pass; whole = l.whole; armed = l.armed; unswept = l.unswept; under_way = l.under_way; unmarked = l.unmarked };
        knows = inr (collects, knowing_own k s r id hist x at word pool class may);
        adds = record { blocks = g.adds.blocks; words = g.adds.words; own = g.adds.own };
        looks = record { at_own = g.looks.at_own; cleans = g.looks.cleans; emptied_is = λ a p own lives. g.looks.emptied_is a p (own_was k s r id hist x at word pool class may a d own) lives };
        running = let u = running' x good in record { knows = u.knows; owes = u.owes };
        deciding = g.deciding;
      }

  sharings' : (z : DomainView) → z.own.number ≢ d → Good k r.account s.words z → Sharing k all' ws z.own.number z.own.registers z.own.finalisers z.own.ephemerons.items z.seen.stage z.seen.share
  sharings' z differs h = let g = h.sharing in record {
    telling = g.telling;
    leading = leading_words c s.words ws z.own.number z.seen.stage z.seen.share (same_cycle k s r id hist x at word pool class may) g.leading;
    knows = ⊎_elim
        (λ (q : IsIdle z.seen.share). inl q)
        (λ (u : IsCollecting z.seen.stage × Knowing k r.account.live T.holder (state_of k r.account.log).graph c.paint.marks s.words z.own.number z.own.registers z.seen.share). inr (u.0, knowing_other k s r id hist x at word pool class may z differs u.1))
        g.knows;
    adds = g.adds;
    looks = record { at_own = g.looks.at_own; cleans = g.looks.cleans; emptied_is = λ a p own lives. g.looks.emptied_is a p (own_was k s r id hist x at word pool class may a z.own.number own) lives };
    running = running' z h;
    deciding = g.deciding;
  }

  return_rule : Rule k record { words = ws; homes = s.homes; views = set s.views id (one k hist y) }
  return_rule =
      let g = good in
      let same = agrees k s r id hist x at word pool class may in
      let own_making = making_agrees k s.words ws x same g.making in
      let own_rest = lists_void x g.staged g.resting in
      remakes k s r id hist x at y all' ws
      (whole_stays k s r id hist x at r.account.log after c ws record {
        wide = length-set s.words (11 + k.pools + pool) 0 ∙ r.whole.wide;
        legal = r.whole.legal;
        full = full' k s r id hist x at word pool class may;
        found = found_agrees k c.paint r.account.live (state_of k r.account.log).graph s.words ws same r.whole.placed r.whole.found;
        phases = phases_words k r.account.pause s.words ws (other 1 (λ e. omega arith)) (other 2 (λ e. omega arith)) r.whole.phases;
        unwished = λ j odd led runs. want ∙ r.whole.unwished j odd led runs;
        endings = other 8 (λ e. omega arith) ∙ r.whole.endings;
        pools = pools' k s r id hist x at word pool class may;
        reserved = reserved' k s r id hist x at word pool class may;
        covered = covered';
        grid = grid' k s r id hist x at word pool class may;
        drawers = drawers' k s r id hist x at word pool class may;
        room = room_words k r.account.live r.account.pause T.stock s.words ws (λ _. counts) r.whole.room;
        unused = r.whole.unused;
        opened = opened_words k r.account.live s.words ws (λ _ _ _ _. counts.0) r.whole.opened;
        drawable = record { to_run = λ j odd _ _. absurd (even_here j odd); to_copy = λ j odd _ _. absurd (even_here j odd) };
        cycle = cycle' k s r id hist x at word pool class may;
      })
      (knows_front k s r id hist x at y refl (inl refl))
      record {
        stood = record { wide = g.stood.wide; each = g.stood.each; serial = g.stood.serial; enrolled = g.stood.enrolled };
        area = record { room = g.area.room; free = g.area.free; classes = g.area.classes };
        making = record { fits = own_making.fits; written = own_making.written };
        staged = record { arrivals = g.staged.arrivals; stage = g.staged.stage };
        still = g.still;
        hunter = hunter';
        resting = record { hunt = own_rest.hunt; free = own_rest.free; spare = own_rest.spare; lists = own_rest.lists };
        took_back = λ kind leads last. want ∙ g.took_back kind leads last;
        owes = owes_as k r.account.live x y refl refl refl refl g.owes;
        rooted = g.rooted;
        set_back = λ b. low_kept (g.set_back b);
        sharing = sharing';
        listed = let l = listed' k s r id hist x at word pool class may d x.own.ephemerons.items g.listed in record { all = l.all; own = l.own; lives = l.lives };
        sweeps = let w = sweeps' k s r id hist x at word pool class may x Outside tt g.sweeps in record { listed = w.listed; places = w.places; anew = w.anew; reaps = w.reaps; below = w.below };
      }
      (λ z _ differs h. record {
        stood = h.stood;
        area = h.area;
        making = making_agrees k s.words ws z same h.making;
        staged = h.staged;
        still = h.still;
        hunter = hunters z differs h;
        resting = lists_void z h.staged h.resting;
        took_back = λ kind leads last. want ∙ h.took_back kind leads last;
        owes = h.owes;
        rooted = h.rooted;
        set_back = λ b. low_kept (h.set_back b);
        sharing = sharings' z differs h;
        listed = listed' k s r id hist x at word pool class may z.own.number z.own.ephemerons.items h.listed;
        sweeps = sweeps' k s r id hist x at word pool class may z z.seen.share.reaping (reaps_else k s r id hist x at word pool class may z.own.number differs z.seen.share.reaping h.sweeps.reaps) h.sweeps;
      })

pub return_may : (k : Config) (x : DomainView) (word pool class : ℕ) → ReturnMay k x word pool class → MayStore k x word 0 (ReturnTold pool)
return_may k x word pool class may fits slots id hist s r _ at _ =
    let y : DomainView = with_share x (record x.seen.share { own_pool = None; held = pool + 1; vacant = 0; reaping = Outside }) in
    (one k hist y, keeps, tt, subst (λ (n : ℕ). Rule k record { words = set s.words n 0; homes = s.homes; views = set s.views id (one k hist y) }) (sym may.word) (return_rule k s r id hist x at word pool class may), (refl, refl))

pub return_closes : (k : Config) (x : DomainView) (pool : ℕ) → Closes k x 0 (ReturnTold pool) CanLeave Leaves
return_closes k x pool = share_closes k x 0 (ReturnTold pool) (λ y t. (record x.seen.share { own_pool = None; held = pool + 1; vacant = 0; reaping = Outside }, t))
