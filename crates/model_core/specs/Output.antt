-- What a run prints: the reply lines of a history, section by section, and the summary of a run.
use Rattle.std.specs.Prelude.{ℕ, List, [], ◌∷◌, ◌++◌, length, fold, codes, decimal, flat_map, ℤ, pos, ◌+ℤ◌, unsigned_abs}
use Rattle.std.specs.Fmt.{signed_decimal}
use Rattle.std.specs.Int.{int_rem_euclid}
use Rattle.std.specs.List.{range_with_len}
use Rattle.model_core.specs.declared.label.Label.{Label}
use Rattle.model_core.specs.declared.entry.Entry.{Entry}
use Rattle.model_core.specs.declared.reply.Reply.{Reply}
use Rattle.model_core.specs.declared.reply.Reply.TheVariants.{Done as DoneReply, Int, Block, BadType, BadIndex, Empty, Yes, No, Full, Live, Fin, Last as LastReply}
use Rattle.model_core.specs.declared.state.Sizes.{Sizes}
use Rattle.model_core.specs.History.{commands, replies}

-- a label as text
abbrev pub label_text : Label → List ℕ
label_text l = decimal l.domain ++ codes ":" ++ decimal l.serial

-- a reply as text
abbrev pub reply_text : Reply → List ℕ
reply_text DoneReply = codes "ok"
reply_text (Int v) = codes "int " ++ signed_decimal v
reply_text (Block l) = codes "blk " ++ label_text l
reply_text BadType = codes "type"
reply_text BadIndex = codes "bounds"
reply_text Empty = codes "none"
reply_text Yes = codes "yes"
reply_text No = codes "no"
reply_text Full = codes "full"
reply_text (Live blocks words) = codes "live " ++ decimal blocks ++ codes " " ++ decimal words
reply_text (Fin number l) = codes "fin " ++ decimal number ++ codes " " ++ label_text l
reply_text (LastReply number) = codes "last " ++ decimal number

-- a text with its line feed
abbrev pub line : List ℕ → List ℕ
line text = text ++ 10 ∷ []

-- the lines of replies
abbrev pub printed : List Reply → List ℕ
printed rs = flat_map (λ r. line (reply_text r)) rs

-- the heading and the lines of domain d
abbrev pub section_text : Sizes → List Entry → ℕ → List ℕ
section_text z h d = line (codes "domain " ++ decimal d) ++ printed (replies z h d)

-- what a run prints
abbrev pub output : Sizes → List Entry → List ℕ
output z h = flat_map (section_text z h) (range_with_len 0 z.domains)

-- the integers that replies show
abbrev pub ints_of : Reply → List ℤ
ints_of (Int v) = v ∷ []
ints_of _ = []

-- the sum of the integers, modulo 1,000,003
abbrev pub int_sum : List ℤ → ℕ
int_sum vs = unsigned_abs (int_rem_euclid (fold ◌+ℤ◌ (pos 0) vs) (pos 1000003))

-- the summary line of domain d
abbrev pub summary_text : Sizes → List Entry → ℕ → List ℕ
summary_text z h d =
    let ints = flat_map ints_of (replies z h d) in
    line (codes "domain " ++ decimal d ++ codes " commands " ++ decimal (length (commands h d))
    ++ codes " ints " ++ decimal (length ints) ++ codes " sum " ++ decimal (int_sum ints))

-- the summary of a run
abbrev pub summary : Sizes → List Entry → List ℕ
summary z h = flat_map (summary_text z h) (range_with_len 0 z.domains)
