-- What fits a token fits it with other parts that fit.
use Rattle.std.proofs.Common.{◌≡◌, ◌+◌, ◌≤◌, ℕ, List, Option, length}
use Rattle.model_core.specs.Domains.{class_count}
use Rattle.heap_words.specs.Remembered.Bounded.{Bounded}
use Rattle.heap_words.specs.declared.value.Value.{Value}
use Rattle.heap_rule.specs.declared.config.Config.{Config}
use Rattle.heap_rule.specs.declared.view.Copied.{Copied}
use Rattle.heap_rule.specs.declared.view.Finalisers.{Finalisers}
use Rattle.heap_rule.specs.declared.view.Own.{Own}
use Rattle.heap_rule.specs.declared.view.Search.{Search}
use Rattle.heap_rule.specs.declared.view.Swept.{Swept}
use Rattle.heap_rule.specs.Finalisers.{FinalisersFit}
use Rattle.heap_rule.specs.Views.{pending_room}
use Rattle.heap_rule.specs.Token.{AllInHeap, Holds, LooksWithin, OwnFits, SweptWithin}

module _ (k : Config) (own : Own) where
  -- with other parts that a collection of young blocks or a sweep may change
  pub fits_with : (looked : List Search) (prepared : List (Option ℕ)) (pending : Bounded Copied) (ephemerons : Bounded ℕ) (swept : Swept) → LooksWithin k looked → length prepared ≡ class_count → pending.room + length pending.items ≡ pending_room k → AllInHeap k ephemerons.items → SweptWithin k swept → OwnFits k own
      → OwnFits k (record own { looked = looked; prepared = prepared; pending = pending; ephemerons = ephemerons; swept = swept })
  fits_with looked prepared pending ephemerons swept looks wide few listed within fits = record {
    number = fits.number;
    used = fits.used;
    registers = fits.registers;
    looked = looks;
    remembered = fits.remembered;
    remembered_room = fits.remembered_room;
    prepared = wide;
    pending = few;
    ephemerons = listed;
    finalisers = fits.finalisers;
    swept = within;
  }

  pub looked_fits : (looked : List Search) → LooksWithin k looked → OwnFits k own → OwnFits k (record own { looked = looked })
  looked_fits looked looks fits = fits_with looked own.prepared own.pending own.ephemerons own.swept looks fits.prepared fits.pending fits.ephemerons fits.swept fits

  pub prepared_fits : (prepared : List (Option ℕ)) → length prepared ≡ class_count → OwnFits k own → OwnFits k (record own { prepared = prepared })
  prepared_fits prepared wide fits = fits_with own.looked prepared own.pending own.ephemerons own.swept fits.looked wide fits.pending fits.ephemerons fits.swept fits

  pub pending_fits : (pending : Bounded Copied) → pending.room + length pending.items ≡ pending_room k → OwnFits k own → OwnFits k (record own { pending = pending })
  pending_fits pending few fits = fits_with own.looked own.prepared pending own.ephemerons own.swept fits.looked fits.prepared few fits.ephemerons fits.swept fits

  -- a token fits whose sweeping has got so far, and that lists these ephemerons
  pub swept_fits : (ephemerons : Bounded ℕ) (swept : Swept) → AllInHeap k ephemerons.items → SweptWithin k swept → OwnFits k own → OwnFits k (record own { ephemerons = ephemerons; swept = swept })
  swept_fits ephemerons swept listed within fits = fits_with own.looked own.prepared own.pending ephemerons swept fits.looked fits.prepared fits.pending listed within fits

  -- with other registers, lists of finalisers and remembered fields, and where it has made blocks
  pub fits_held : (used serial : ℕ) (registers : List Value) (remembered : Bounded ℕ) (fs : Finalisers) → used ≤ k.minor_words → Holds k registers → AllInHeap k remembered.items → remembered.room + length remembered.items ≡ k.minor_words → FinalisersFit k fs → OwnFits k own
      → OwnFits k (record own { used = used; serial = serial; registers = registers; remembered = remembered; finalisers = fs })
  fits_held used serial registers remembered fs room holds inside few lists fits = record {
    number = fits.number;
    used = room;
    registers = holds;
    looked = fits.looked;
    remembered = inside;
    remembered_room = few;
    prepared = fits.prepared;
    pending = fits.pending;
    ephemerons = fits.ephemerons;
    finalisers = lists;
    swept = fits.swept;
  }

  pub registers_fit : (registers : List Value) (fs : Finalisers) → Holds k registers → FinalisersFit k fs → OwnFits k own → OwnFits k (record own { registers = registers; finalisers = fs })
  registers_fit registers fs holds lists fits = fits_held own.used own.serial registers own.remembered fs fits.used holds fits.remembered fits.remembered_room lists fits
