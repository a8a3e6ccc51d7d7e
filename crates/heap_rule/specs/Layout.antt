-- Where the words of the table lie: control words, the list of free pools, the owners of pools, and the words of the heap. docs/HEAP.md draws it.
use Rattle.std.specs.Prelude.{ℕ, ◌+◌, ◌*◌, List, slice_index}
use Rattle.heap_rule.specs.declared.config.Config.{Config}

-- the words of the pools and of the minor areas, which have the addresses from 1 on
abbrev pub heap_words : Config → ℕ
heap_words k = k.pools * 4096 + k.domains * k.minor_words

-- the index of the word before the one with the address 1
abbrev pub before_heap : Config → ℕ
before_heap k = 10 + 2 * k.pools

-- how many words the table has, the one with index 0 among them
abbrev pub table_words : Config → ℕ
table_words k = 1 + before_heap k + heap_words k

-- the first address of domain d's minor area
abbrev pub base_of : Config → ℕ → ℕ
base_of k d = k.pools * 4096 + d * k.minor_words + 1

-- the word at an address
abbrev pub at_address : Config → List ℕ → ℕ → ℕ
at_address k words a = slice_index words (before_heap k + a)

-- the word at place i of the list of free pools, and the owner of pool i
abbrev pub listed_pool : List ℕ → ℕ → ℕ
listed_pool words i = slice_index words (11 + i)

abbrev pub owner_of : Config → List ℕ → ℕ → ℕ
owner_of k words i = slice_index words (11 + k.pools + i)

-- the want word says which collections the domains ask for
abbrev pub want : List ℕ → ℕ
want words = slice_index words 0

-- the barrier word says how often the domains have arrived, the plan word which phase is next
abbrev pub barrier : List ℕ → ℕ
barrier words = slice_index words 1

abbrev pub plan : List ℕ → ℕ
plan words = slice_index words 2

-- 1 where a block was darkened that another round must see
abbrev pub changed_word : List ℕ → ℕ
changed_word words = slice_index words 3

-- how many traces have ended
abbrev pub ended_word : List ℕ → ℕ
ended_word words = slice_index words 8

-- whether a collection is under way, and the meanings of the colours
abbrev pub armed : List ℕ → ℕ
armed words = slice_index words 4

abbrev pub colours : List ℕ → ℕ
colours words = slice_index words 5

-- how many pools are listed, and how many of them were asked for
abbrev pub listed : List ℕ → ℕ
listed words = slice_index words 6

abbrev pub cursor : List ℕ → ℕ
cursor words = slice_index words 7

-- how many blocks a collection has left, and how many words they have
abbrev pub live_blocks : List ℕ → ℕ
live_blocks words = slice_index words 9

abbrev pub live_words : List ℕ → ℕ
live_words words = slice_index words 10
