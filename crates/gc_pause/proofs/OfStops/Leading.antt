-- Domain 0 may name the next kind once it has taken the wishes back, where the domains run next.
use Rattle.std.proofs.Common.{◌≡◌, ℕ, ◌+◌, List, ◌++◌, Some, length, sym, refl, ap, ◌∙◌, subst, inl, inr, ⊎_elim, ◌-◌, ◌≤◌, arith, suc}
use Rattle.std.proofs.lemmas.List.{append-nil}
use Rattle.heap_rule.specs.declared.config.Config.{Config}
use Rattle.heap_rule.specs.declared.view.DomainView.{DomainView}
use Rattle.heap_rule.specs.declared.phase.Kind.{Kind}
use Rattle.heap_rule.specs.declared.phase.Kind.TheVariants.{Run, Promote, Reset, Roots, Mark, Rounds, Decide, Queued, Clean, Lasts, Sweep, Answer}
use Rattle.heap_rule.specs.declared.phase.Note.{Note}
use Rattle.heap_rule.specs.declared.phase.Note.TheVariants.{Cleared, SetBack}
use Rattle.heap_rule.specs.declared.phase.Stage.TheVariants.{Leads}
use Rattle.heap_rule.specs.Phases.{code, kind_at, Follows, last_note}
use Rattle.heap_rule.proofs.Controls.{last_note_end}
use Rattle.step_pauses.specs.Pauses.{kind_in, IsWish, LeadMay, MayFollow, LeadTold}
use Rattle.step_pools.specs.Listings.{HasList, ListStays, NamesAll, free_pools}
use Rattle.step_pools.proofs.FreePools.{free_all}
use Rattle.gc_pause.specs.declared.stops.answer.Want as wish
use Rattle.gc_pause.specs.declared.stops.answer.Want.TheVariants.{Minor, Cycle, Finish, Full}
use Rattle.gc_pause.specs.Stops.Looks.{bit_of, cleared, LedTo}

-- each wish has a bit of its own
pub bit_wish : (want : wish.Want) → IsWish (bit_of want)
bit_wish Minor = inl refl
bit_wish Cycle = inr (inl refl)
bit_wish Finish = inr (inr (inl refl))
bit_wish Full = inr (inr (inr refl))

-- the kind of a kind's word
pub kind_of_code : (kind : Kind) → kind_at (code kind) ≡ kind
kind_of_code Run = refl
kind_of_code Promote = refl
kind_of_code Reset = refl
kind_of_code Roots = refl
kind_of_code Mark = refl
kind_of_code Rounds = refl
kind_of_code Decide = refl
kind_of_code Queued = refl
kind_of_code Clean = refl
kind_of_code Lasts = refl
kind_of_code Sweep = refl
kind_of_code Answer = refl

-- all words from 11 on are taken for the last kind
pub kind_above : (word : ℕ) → 11 ≤ word → kind_at word ≡ Answer
kind_above word above = ap kind_at (let e : word ≡ suc (suc (suc (suc (suc (suc (suc (suc (suc (suc (suc (word - 11))))))))))) = omega arith in e)

-- the last note says that the wishes were taken back
took : (notes : List Note) (next : Kind) → next ≡ Run → last_note (notes ++ cleared next) ≡ Some Cleared
took notes next runs = subst (λ (kind : Kind). last_note (notes ++ cleared kind) ≡ Some Cleared) (sym runs) (last_note_end notes Cleared)

-- where domains copy next, the last note says that the cursor was set back
back : (notes : List Note) (next : Kind) → next ≡ Promote → last_note notes ≡ Some SetBack → last_note (notes ++ cleared next) ≡ Some SetBack
back notes next copies last = subst (λ (kind : Kind). last_note (notes ++ cleared kind) ≡ Some SetBack) (sym copies) (ap last_note (append-nil notes) ∙ last)

pub lead_may : (k : Config) (x y : DomainView) (word : ℕ) (next : Kind) → x.own.number ≡ 0 → x.seen.stage ≡ Leads (kind_in x.seen.stage) → Follows (kind_in x.seen.stage) next → MayFollow x.seen.share (kind_in x.seen.stage) next → word ≡ code next → (next ≡ Run → NamesAll k x) → (next ≡ Promote → last_note x.seen.notes ≡ Some SetBack)
    → y ≡ record x { seen = record x.seen { notes = x.seen.notes ++ cleared next } } → LeadMay k y word (kind_at word)
lead_may k x y word next first leads follows may is list set_back view =
    let kind : kind_at word ≡ next = ap kind_at is ∙ kind_of_code next in
    subst (λ (z : DomainView). LeadMay k z word (kind_at word)) (sym view) (record {
      leads = first;
      last = kind_in x.seen.stage;
      stage = leads;
      follows = subst (Follows (kind_in x.seen.stage)) (sym kind) follows;
      may = subst (MayFollow x.seen.share (kind_in x.seen.stage)) (sym kind) may;
      word = is ∙ ap code (sym kind);
      took_back = λ runs. took x.seen.notes next (sym kind ∙ runs);
      relisted = λ runs. ⊎_elim
          (λ (l : HasList k x). inl (record {
            list = record { owners = l.owners; names = free_pools l.owners; cursor = Some 0; listed = length (free_pools l.owners) };
            listing = l.listing;
            rewound = refl;
            all = l.all;
            count = refl;
            free = λ q none. let at = free_all 0 q l.owners none in (at.0, at.1 ∙ ap Some (let e : 0 + q ≡ q = omega arith in e));
          }))
          (λ (l : ListStays k x). inr (record { list = l.list; listing = l.listing; some = l.some; at = l.at; cursor_is = l.cursor_is; low = l.low }))
          (list (sym kind ∙ runs));
      set_back = λ copies. let is = sym kind ∙ copies in back x.seen.notes next is (set_back is);
    })

-- and what it then has done
pub led_to : (k : Config) (x y z : DomainView) (word : ℕ) (next : Kind) → word ≡ code next → y ≡ record x { seen = record x.seen { notes = x.seen.notes ++ cleared next } } → LeadTold k (kind_at word) y word z → LedTo k next x z
led_to k x y z word next is view told =
    let kind : kind_at word ≡ next = ap kind_at is ∙ kind_of_code next in
    let t = subst (λ (u : DomainView × Kind). LeadTold k u.1 u.0 word z) (λ i. (view i, kind i)) told in record {
      seen = t.seen;
      stays = t.stays;
      made = λ e stands. let m = t.made e stands in record { before = m.before; front = m.front; seen = m.seen; led = m.led; legal = m.legal };
      view = t.view;
      grown = t.grown;
    }
