-- What calls do to a table, one after another: a binding stays while none of them puts or takes its key, and is found.
use Rattle.std.proofs.Common.{◌≡◌, ◌≢◌, ◌⊎◌, inl, inr, List, [], ◌∷◌, Option, Some, None, refl, ap, sym, ◌∙◌, subst, append-nil}
use Rattle.model_core.specs.declared.label.Label.{Label}
use Rattle.model_core.specs.declared.entry.Entry.{Entry}
use Rattle.model_core.specs.declared.graph.Value.{Value}
use Rattle.model_core.specs.declared.graph.Value.TheVariants.{Int, Block, Nothing}
use Rattle.model_core.specs.declared.reply.Reply.{Reply}
use Rattle.model_core.specs.declared.reply.Reply.TheVariants as reply
use Rattle.model_core.specs.declared.state.Sizes.{Sizes}
use Rattle.model_core.specs.Commands.{shown}
use Rattle.model_core.specs.History.{IsPrefix}
use Rattle.weak_laws.specs.Tables.Structures.{Cell, bindings, datum_at, table_labels, IsTable, Apart}
use Rattle.weak_laws.specs.Tables.Thinning.{WasOutside}
use Rattle.weak_laws.specs.Tables.Stages.{Goes, graph_of}
use Rattle.weak_laws.proofs.OfTables.BindingLemmas.{thinned_datum}
use Rattle.weak_laws.proofs.OfTables.ChangeLemmas.{table_kept, bindings_thinned}
use Rattle.weak_laws.proofs.OfTables.StageLemmas.{prefix_trans, later_outside, since_outside}
use Rattle.weak_laws.proofs.OfTables.UniqueLemmas.{layout_law}
use Rattle.weak_tables.proofs.RefusedBodies.{other_stays, no_neighbour_is_unlinked}
use Rattle.weak_tables.specs.Commands.{value_of}
use Rattle.weak_tables.specs.Held.{IsClean}
use Rattle.weak_tables.specs.Walks.{Refused}
use Rattle.weak_tables.specs.Tables.{Puts, Takes}
use Rattle.weak_tables.specs.Calls.{TableCall, Put, Get, Take, Count, Others, CallRuns, CallsRun, Spares, AllSpare}
use Rattle.weak_tables.specs.Laws.{LookupsFind, PutsKeepOthers, TakesKeepOthers, BindingsAreFound}

pub lookups_law : LookupsFind
lookups_law z old new root chains k dst r v x bound reached =
    let whole = thinned_datum (WasOutside z old new) k reached _ _ x.reads.thinned in
    let rest = thinned_datum (WasOutside z x.front new) k (λ w. reached (since_outside z old x.front new k x.since w)) _ _ x.rest.thinned in
    let found : x.found ≡ Some v = sym x.bound ∙ (sym rest ∙ (whole ∙ bound)) in
    x.answers ∙ ap (λ (o : Option Value). shown (value_of o)) found

pub puts_law : PutsKeepOthers
puts_law z old new root chains k j v x other reached =
    sym (other_stays k j (bindings (graph_of z new) x.grown) other) ∙ (thinned_datum (WasOutside z old new) j reached _ _ x.left ∙ other_stays k j (bindings (graph_of z old) chains) other)

pub takes_law : TakesKeepOthers
takes_law = no_neighbour_is_unlinked

-- a stretch of a history leaves what a key is bound to: the front has grown, and the key is bound to the same where it was reached all the while
record Keeps (z : Sizes) (k : Label) (v : Value) (old : List Entry) (chains : List (List Cell)) (new : List Entry) (last : List (List Cell)) : Type 0 where
  grows : IsPrefix old new
  still : datum_at (bindings (graph_of z old) chains) k ≡ Some v → (WasOutside z old new k → ⊥) → datum_at (bindings (graph_of z new) last) k ≡ Some v

keeps_nothing : (z : Sizes) (k : Label) (v : Value) (old : List Entry) (chains : List (List Cell)) → Keeps z k v old chains old chains
keeps_nothing z k v old chains = record { grows = record { rest = []; appends = sym (append-nil old) }; still = λ bound reached. bound }

keeps_twice : (z : Sizes) (k : Label) (v : Value) (old mid new : List Entry) (a b c : List (List Cell)) → Keeps z k v old a mid b → Keeps z k v mid b new c → Keeps z k v old a new c
keeps_twice z k v old mid new a b c x y = record {
  grows = prefix_trans old mid new x.grows y.grows;
  still = λ bound reached. y.still (x.still bound (λ w. reached (later_outside z old mid new k y.grows w))) (λ w. reached (since_outside z old mid new k x.grows w));
}

-- what a call did to the table, whatever its reply, and which keys it spares
pub data Did (z : Sizes) (root : Label) (c : TableCall) (old : List Entry) (chains : List (List Cell)) (new : List Entry) : Type 0 where
  DidNothing : new ≡ old → Did z root c old chains new
  LeftApart : (own : List Label) → Goes z old new own → Apart (table_labels root chains) own → Did z root c old chains new
  DidPut : (key : Label) (w : Value) → ((k : Label) → Spares k c → key ≢ k) → Puts z old new root chains key w → Did z root c old chains new
  DidTake : (key : Label) → ((k : Label) → Spares k c → key ≢ k) → Takes z old new root chains key → Did z root c old chains new

module _ (z : Sizes) (root : Label) (old new : List Entry) (chains : List (List Cell)) where
  did_read : (c : TableCall) → Goes z old new [] → Did z root c old chains new
  did_read c goes = LeftApart [] goes (λ l h. refl)

  did_put : (key : Label) (w : Value) (r : Reply) → ((r ≡ reply.Done) × Puts z old new root chains key w) ⊎ ((r ≡ reply.Full) × Refused z old new root chains × IsClean z new) → Did z root (Put (Some key) w r) old chains new
  did_put key w r (inl (done, x)) = DidPut key w (λ k spares same. spares done (ap Some same)) x
  did_put key w r (inr (full, x, clean)) = did_read (Put (Some key) w r) x.reads.goes

  pub did : (c : TableCall) → CallRuns z root c old chains new → Did z root c old chains new
  did (Put None w r) (bad, same) = DidNothing same
  did (Put (Some key) Nothing r) (bad, same) = DidNothing same
  did (Put (Some key) (Int w) r) answer = did_put key (Int w) r answer
  did (Put (Some key) (Block l) r) answer = did_put key (Block l) r answer
  did (Get None dst r) (bad, same) = DidNothing same
  did (Get (Some key) dst r) x = did_read (Get (Some key) dst r) x.reads.goes
  did (Take None r) (bad, same) = DidNothing same
  did (Take (Some key) r) (inl (done, x)) = DidTake key (λ k spares same. spares done (ap Some same)) x
  did (Take (Some key) r) (inr (empty, x, keeps, none)) = did_read (Take (Some key) r) x.reads.goes
  did (Count n) x = did_read (Count n) x.leaves.reads.goes
  did (Others own) (goes, apart) = LeftApart own goes apart

-- a call grows the front, and so do calls one after another
pub call_grows : (z : Sizes) (root : Label) (c : TableCall) (old new : List Entry) (chains : List (List Cell)) → Did z root c old chains new → IsPrefix old new
call_grows z root c old new chains (DidNothing same) = record { rest = []; appends = same ∙ sym (append-nil old) }
call_grows z root c old new chains (LeftApart own goes apart) = goes.grows
call_grows z root c old new chains (DidPut key w other x) = x.goes.grows
call_grows z root c old new chains (DidTake key other x) = x.goes.grows

pub calls_grow : (z : Sizes) (root : Label) (cs : List TableCall) (old new : List Entry) (chains last : List (List Cell)) → CallsRun z root cs old chains new last → IsPrefix old new
calls_grow z root [] old new chains last (same, chains_same) = record { rest = []; appends = same ∙ sym (append-nil old) }
calls_grow z root (c ∷ cs) old new chains last (front, mid, runs, there, rest) =
    prefix_trans old front new (call_grows z root c old front chains (did z root old front chains c runs)) (calls_grow z root cs front new mid last rest)

-- a call, after which the table has one layout
module _ (z : Sizes) (root : Label) (c : TableCall) (old new : List Entry) (chains last : List (List Cell)) (was : IsTable (graph_of z old) root chains) (now : IsTable (graph_of z new) root last) where
  abbrev P : Label → Type 0
  P = WasOutside z old new

  pub same_table : new ≡ old → IsTable (graph_of z new) root chains
  same_table same = subst (λ (h : List Entry). IsTable (graph_of z h) root chains) (sym same) was

  pub apart_table : (own : List Label) → Goes z old new own → Apart (table_labels root chains) own → IsTable (graph_of z new) root chains
  apart_table own goes apart = table_kept P own (graph_of z old) (graph_of z new) goes.changes root chains apart was

  -- what is said of the layout of a clause holds of that one
  pub laid : (A : List (List Cell) → Type 0) (grown : List (List Cell)) → IsTable (graph_of z new) root grown → A grown → A last
  laid A grown table a = subst A (layout_law (graph_of z new) root grown last table now) a

  call_keeps : (k : Label) (v : Value) → Spares k c → Did z root c old chains new → Keeps z k v old chains new last
  call_keeps k v spares (DidNothing same) =
      laid (Keeps z k v old chains new) chains (same_table same) (subst (λ (h : List Entry). Keeps z k v old chains h chains) (sym same) (keeps_nothing z k v old chains))
  call_keeps k v spares (LeftApart own goes apart) =
      laid (Keeps z k v old chains new) chains (apart_table own goes apart)
      (record {
        grows = goes.grows;
        still = λ bound reached. thinned_datum P k reached _ _ (bindings_thinned P own (graph_of z old) (graph_of z new) goes.changes root chains apart was) ∙ bound;
      })
  call_keeps k v spares (DidPut key w other x) =
      laid (Keeps z k v old chains new) x.grown x.table
      (record { grows = x.goes.grows; still = λ bound reached. puts_law z old new root chains key k w x (λ same. other k spares (sym same)) reached ∙ bound })
  call_keeps k v spares (DidTake key other x) =
      laid (Keeps z k v old chains new) chains x.table
      (record { grows = x.goes.grows; still = λ bound reached. takes_law z old new root chains key k x (λ same. other k spares (sym same)) reached ∙ bound })

-- and calls, one after another
calls_keep : (z : Sizes) (root : Label) (k : Label) (v : Value) (cs : List TableCall) (old new : List Entry) (chains last : List (List Cell)) → IsTable (graph_of z old) root chains → CallsRun z root cs old chains new last → AllSpare k cs
    → Keeps z k v old chains new last
calls_keep z root k v [] old new chains last table (same, chains_same) spare =
    subst (λ (x : List Entry × List (List Cell)). Keeps z k v old chains x.0 x.1) (λ i. (sym same i, sym chains_same i)) (keeps_nothing z k v old chains)
calls_keep z root k v (c ∷ cs) old new chains last table (front, mid, runs, there, rest) (spare, spares) =
    keeps_twice z k v old front new chains mid last (call_keeps z root c old front chains mid table there k v spare (did z root old front chains c runs)) (calls_keep z root k v cs front new mid last there rest spares)

pub bindings_law : BindingsAreFound
bindings_law z root cs first put last now before after k v dst r x runs spare g reached =
    let kept = calls_keep z root k v cs put last x.grown after x.table runs spare in
    let bound = kept.still x.bound (λ w. reached (later_outside z put last now k g.reads.goes.grows w)) in
    lookups_law z last now root after k dst r v g bound (λ w. reached (since_outside z put last now k kept.grows w))
