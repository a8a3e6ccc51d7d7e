-- The list of a domain's token that is lent item by item: the registers. Each other list has reads of its own.
use Rattle.std.specs.Prelude.{List, [], map}
use Rattle.heap_words.specs.declared.value.Value.{Value}
use Rattle.heap_rule.specs.declared.change.Part.{Part}
use Rattle.heap_rule.specs.declared.change.Part.TheVariants.{Register}
use Rattle.heap_rule.specs.declared.change.Item.{Item}
use Rattle.heap_rule.specs.declared.view.Own.{Own}

-- a value as an item of a list
abbrev pub item_of : Value → Item
item_of v = record { value = v; number = 0; more = 0 }

-- the items of a list
abbrev pub items_of : Part → Own → List Item
items_of Register own = map item_of own.registers
items_of _ own = []
