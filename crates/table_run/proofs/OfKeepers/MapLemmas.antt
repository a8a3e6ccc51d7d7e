-- What the calls on a weak map leave, as calls on what keeps bindings.
use Rattle.std.proofs.Common.{◌≡◌, inl, inr, ℕ, List, Option, Some, None, refl, ap, ◌∙◌}
use Rattle.model_core.specs.declared.label.Label.{Label}
use Rattle.model_core.specs.declared.entry.Entry.{Entry}
use Rattle.model_core.specs.declared.graph.Value.{Value}
use Rattle.model_core.specs.declared.graph.Value.TheVariants.{Int, Block, Nothing}
use Rattle.model_core.specs.declared.reply.Reply.{Reply}
use Rattle.model_core.specs.declared.state.Sizes.{Sizes}
use Rattle.model_core.specs.Commands.{shown}
use Rattle.weak_laws.specs.Tables.Performing.{full_of}
use Rattle.weak_laws.specs.Tables.Stages.{graph_of}
use Rattle.weak_laws.specs.Maps.Calls.{value_of}
use Rattle.weak_maps.specs.Lists.Stretches.{HoldsList, IsListed, KeepsLow, IsSettled, WritesMap}
use Rattle.weak_maps.specs.Lists.Answers as lists
use Rattle.table_text.specs.declared.version.Version.TheVariants.{Two}
use Rattle.table_run.specs.Keepers.Keepers.{HoldsKeeper, IsPlacedMap, Shape}
use Rattle.table_run.specs.Keepers.Answers.{Counts, GetAnswers, MakeAnswers, PutAnswers, Stays, TakeAnswers, Writes}

-- a map by either name
pub placed : (z : Sizes) (h : List Entry) (root : Label) → IsListed z h root → IsPlacedMap z.domains (graph_of z h) root
placed z h root x = record { map = x.map; placed = x.placed }

pub listed : (z : Sizes) (h : List Entry) (root : Label) → IsPlacedMap z.domains (graph_of z h) root → IsListed z h root
listed z h root x = record { map = x.map; placed = x.placed }

pub holds_list : (z : Sizes) (h : List Entry) (r : ℕ) → HoldsKeeper Two z h r → HoldsList z h r
holds_list z h r x = record { root = x.root; held = x.held; listed = listed z h x.root x.keeper }

module _ (z : Sizes) (old new : List Entry) (root : Label) (shape : Shape Two) where
  pub map_writes : WritesMap z old new root → KeepsLow z old new → IsSettled z old new → Writes Two z old new root shape
  map_writes w keeps settled = record { goes = w.goes; low = keeps; settled = settled; now = shape; keeper = placed z new root w.listed; labels = w.labels }

  pub map_stays : lists.ListStays z old new root → Stays Two z old new root shape
  map_stays s = record { writes = map_writes s.writes s.keeps s.settled; left = s.left }

  pub map_put_answers : (o : Option Label) (datum : Value) (r : Reply) → lists.ListPutAnswers z old new root o datum r → PutAnswers Two z old new root shape o datum r
  map_put_answers None datum r answer = answer
  map_put_answers (Some k) Nothing r answer = answer
  map_put_answers (Some k) (Int v) r (inl (is, p)) = inl (is, record { writes = map_writes p.writes p.keeps p.settled; left = p.left; bound = p.bound })
  map_put_answers (Some k) (Int v) r (inr (is, s)) = inr (is, map_stays s)
  map_put_answers (Some k) (Block l) r (inl (is, p)) = inl (is, record { writes = map_writes p.writes p.keeps p.settled; left = p.left; bound = p.bound })
  map_put_answers (Some k) (Block l) r (inr (is, s)) = inr (is, map_stays s)

  pub map_take_answers : (o : Option Label) (r : Reply) → lists.ListTakeAnswers z old new root o r → TakeAnswers Two z old new root shape o r
  map_take_answers None r answer = answer
  map_take_answers (Some k) r (inl (is, t)) = inl (is, record { writes = map_writes t.writes t.keeps t.settled; was = t.was; bound = t.bound; left = t.left; none = t.none })
  map_take_answers (Some k) r (inr (is, s, none)) = inr (is, record { stays = map_stays s; none = none })

  pub map_get_answers : (dst : ℕ) (o : Option Label) (r : Reply) → lists.ListGetAnswers z old new root dst o r → GetAnswers Two z old new root shape dst o r
  map_get_answers dst None r answer = answer
  map_get_answers dst (Some k) r g = record {
    goes = g.reads.goes;
    keeps = g.keeps;
    settled = g.settled;
    front = g.front;
    since = g.before.goes.grows;
    behind = g.behind.goes;
    thinned = g.behind.thinned;
    found = g.found;
    bound = g.bound;
    answers = g.answers;
    holds = g.holds;
  }

  pub map_counts : (count : ℕ) → lists.ListCounts z old new root count → Counts Two z old new root shape count
  map_counts count c = record {
    goes = c.reads.goes;
    low = c.keeps;
    settled = c.settled;
    front = c.front;
    before = c.before;
    behind = c.behind;
    number = c.number;
    many = c.many;
    few = c.few;
  }

-- a look-up and a removal are never answered `full`
none_full : (v : Value) → full_of (shown v) ≡ 0
none_full (Int i) = refl
none_full (Block l) = refl
none_full Nothing = refl

pub get_unrefused : (z : Sizes) (old new : List Entry) (root : Label) (dst : ℕ) (o : Option Label) (r : Reply) → lists.ListGetAnswers z old new root dst o r → full_of r ≡ 0
get_unrefused z old new root dst None r answer = ap full_of answer.0
get_unrefused z old new root dst (Some k) r g = ap full_of g.answers ∙ none_full (value_of g.found)

pub take_unrefused : (z : Sizes) (old new : List Entry) (root : Label) (o : Option Label) (r : Reply) → lists.ListTakeAnswers z old new root o r → full_of r ≡ 0
take_unrefused z old new root None r answer = ap full_of answer.0
take_unrefused z old new root (Some k) r (inl done) = ap full_of done.0
take_unrefused z old new root (Some k) r (inr none) = ap full_of none.0

pub map_make_answers : (z : Sizes) (old new : List Entry) (dst : ℕ) (r : Reply) → lists.ListMakeAnswers z old new dst r → MakeAnswers Two z old new dst r
map_make_answers z old new dst r (inr (full, none)) = inr (full, record { goes = none.goes; keeps = none.keeps })
map_make_answers z old new dst r (inl (root, is, m)) = inl (
  root,
  is,
  record {
    goes = m.goes;
    keeps = m.keeps;
    holds = m.holds;
    fresh = m.fresh;
    shape = tt;
    keeper = placed z new root m.listed;
    empty = m.empty;
  },
)
