use Rattle.std.proofs.Common.{◌∙◌, ℕ, Option, sym, ap, subst}
use Rattle.heap_rule.specs.Changes.{value_at}
use Rattle.heap_rule.specs.Running.{own_entry}
use Rattle.step_ephemerons.specs.Commands.Heads.{key_in, HasKey, LacksKey}
use Rattle.do_ephemerons.proofs.Refusals.{refused, ephemeron_few}
use Rattle.do_ephemerons.proofs.KeyCounts.{no_ephemeron, keys_told}
use Rattle.do_ephemerons.proofs.finding.find.Goals as goal

pub returns-in_default-key_count-clause-refused : goal.returns-in_default-key_count-clause-refused
returns-in_default-key_count-clause-refused g c =
    let told = c.ephe_head_load.ensures.told in
    refused c.args.heap.now c.args.dom.now c.ephe_head_load.new.dom g.command _ tt c.requires.0 c.ephe_head_load.ensures.here
    (no_ephemeron _ _ (own_entry c.args.dom.now g.command) _ _ _ _ told (c.key_count.ensures told.shape told.head) c.in_default-key_count.is)

pub returns-then-lacks_key-clause-refused : goal.returns-then-lacks_key-clause-refused
returns-then-lacks_key-clause-refused g c =
    let told = c.ephe_head_load.ensures.told in
    let keys = keys_told _ _ (own_entry c.args.dom.now g.command) _ _ _ _ c.in-Some.keys told (c.key_count.ensures told.shape told.head) c.in-Some.is in
    refused c.args.heap.now c.args.dom.now c.ephe_head_load.new.dom g.command _ tt c.requires.0 c.ephe_head_load.ensures.here
    (keys.past (subst (λ (key : Option ℕ). LacksKey key c.in-Some.keys) (sym c.requires.1.0.1) (c.lacks_key.ensures.lacks c.if-lacks_key.true)))

pub returns-clause-found : goal.returns-clause-found
returns-clause-found g c =
    let told = c.ephe_head_load.ensures.told in
    let keys = keys_told _ _ (own_entry c.args.dom.now g.command) _ _ _ _ c.in-Some.keys told (c.key_count.ensures told.shape told.head) c.in-Some.is in
    let has : HasKey (key_in g.command) c.in-Some.keys = subst (λ (key : Option ℕ). HasKey key c.in-Some.keys) (sym c.requires.1.0.1) (c.lacks_key.ensures.has c.if-lacks_key.false) in
    record {
      keys = c.in-Some.keys;
      here = c.ephe_head_load.ensures.here;
      block = record { few = ephemeron_few g.command c.requires.1.0.2; holds = ap (λ (r : ℕ). value_at c.args.dom.now.view.own.registers r) c.requires.1.0.0 ∙ sym c.in-Ref.ensures.value };
      counted = keys.below has;
      has = has;
      item = c.requires.1.1;
    }
