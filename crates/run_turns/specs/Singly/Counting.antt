-- What a domain counts.
use Rattle.std.specs.Prelude.{length}
use Rattle.heap_rule.specs.declared.view.Own.{Own}
use Rattle.run_turns.specs.declared.singly.counting.Stats.{Stats}

-- the counts of what a domain's token holds
abbrev pub stats_of : Own → Stats
stats_of o = record {
  labels = o.serial;
  young_words = o.used;
  remembered = length o.remembered.items;
  ephemerons = length o.ephemerons.items;
  finals = length o.finalisers.finals.items;
  lasts = length o.finalisers.lasts.items;
  waiting = length o.finalisers.queue.items;
  arrivals = o.arrivals;
}

-- those before the first command
abbrev pub no_stats : Stats
no_stats = record { labels = 0; young_words = 0; remembered = 0; ephemerons = 0; finals = 0; lasts = 0; waiting = 0; arrivals = 0 }
