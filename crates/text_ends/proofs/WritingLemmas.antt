-- What is written in two steps is written in one.
use Rattle.std.proofs.Common.{ℕ, List, take, drop, sym, take-append-drop, Result, Ok, Err}
use Rattle.std.specs.declared.option.Option.{Option}
use Rattle.std.specs.Result.{IsErr}
use Rattle.std.specs.Io.KnownBytes.{Appends, Keeps}
use Rattle.std.proofs.KnownBytes.{Appends-kept}
use Rattle.text_ends.specs.Writing.{AppendsFront, Writes}

-- a write that failed appended nothing behind a front part
pub front_at_fault : (a b c : Option (List ℕ)) (text : List ℕ) (at : ℕ) → Appends a b (take at text) → Keeps b c → AppendsFront a c text
front_at_fault a b c text at part kept = record {
  front = take at text;
  rest = drop at text;
  splits = sym (take-append-drop at text);
  appended = Appends-kept a b c (take at text) part kept;
}

-- where a write failed, a front part was appended
pub front_is_written : {T E : Type 0} → (a b : Option (List ℕ)) (result : Result T E) (text : List ℕ) → IsErr result → AppendsFront a b text → Writes a b result text
front_is_written a b (Ok x) text failed part = cc
front_is_written a b (Err e) text failed part = part
