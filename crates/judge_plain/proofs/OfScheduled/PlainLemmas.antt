-- A script that can be replayed neither spawns nor joins.
use Rattle.std.proofs.Common.{◌≡◌, ℕ, zero, suc, ◌-◌, Bool, true, false, List, [], ◌∷◌, ◌++◌, length, replicate, refl, ap, ◌∙◌}
use Rattle.std.specs.Prelude.{◌==◌, ◌&&◌}
use Rattle.std.specs.List.{list_all}
use Rattle.std.proofs.lemmas.Bool.{and_parts}
use Rattle.model_core.specs.declared.command.Command.{Command}
use Rattle.model_core.specs.declared.command.Command.TheVariants.{Spawn, Argument, PutResult, Join}
use Rattle.text_script.specs.Forms.{is_writable, version_number}
use Rattle.text_script.specs.Script.{Scripted}
use Rattle.text_script.specs.Spelling.{Spells}
use Rattle.text_script.specs.declared.version.Version.{Version}
use Rattle.text_script.specs.declared.version.Version.TheVariants.{One, Two, Three}
use Rattle.model_traces.specs.Scheduled.Runs.{IsPlainScript, is_one_entry}

both : (a b : Bool) → a ≡ true → b ≡ true → (a && b) ≡ true
both true b x y = y
both false b x y = cc

all_imply : {A : Type 0} (p q : A → Bool) (xs : List A) → ((x : A) → p x ≡ true → q x ≡ true) → list_all p xs ≡ true → list_all q xs ≡ true
all_imply p q [] imply all = refl
all_imply p q (x ∷ xs) imply all = let parts = and_parts (p x) (list_all p xs) all in both (q x) (list_all q xs) (imply x parts.0) (all_imply p q xs imply parts.1)

all_append : {A : Type 0} (q : A → Bool) (xs ys : List A) → list_all q xs ≡ true → list_all q ys ≡ true → list_all q (xs ++ ys) ≡ true
all_append q [] ys one two = two
all_append q (x ∷ xs) ys one two = let parts = and_parts (q x) (list_all q xs) one in both (q x) (list_all q (xs ++ ys)) parts.0 (all_append q xs ys parts.1 two)

none_left : (n : ℕ) → list_all (list_all is_one_entry) (replicate n []) ≡ true
none_left zero = refl
none_left (suc n) = none_left n

plain_command : (v : Version) (domains : ℕ) (c : Command) → (version_number v == 3) ≡ false → is_writable v domains c ≡ true → is_one_entry c ≡ true
plain_command Three domains c older writable = cc
plain_command One domains (Spawn section item) older writable = cc
plain_command One domains (Argument dst) older writable = cc
plain_command One domains (PutResult item) older writable = cc
plain_command One domains (Join dst section) older writable = cc
plain_command One domains c older writable = refl
plain_command Two domains (Spawn section item) older writable = cc
plain_command Two domains (Argument dst) older writable = cc
plain_command Two domains (PutResult item) older writable = cc
plain_command Two domains (Join dst section) older writable = cc
plain_command Two domains c older writable = refl

pub plain_script : (newest : Version) (domains : ℕ) (script : Scripted) (bytes : List ℕ) → Spells newest domains script bytes → (version_number script.version == 3) ≡ false → IsPlainScript script.sections
plain_script newest domains script bytes spelled older =
    ap (list_all (list_all is_one_entry)) spelled.script_is
    ∙ all_append (list_all is_one_entry) spelled.written (replicate (domains - length spelled.written) [])
    (all_imply (list_all (is_writable script.version domains)) (list_all is_one_entry) spelled.written
    (λ cs. all_imply (is_writable script.version domains) is_one_entry cs (λ c. plain_command script.version domains c older))
    spelled.is_written.writable)
    (none_left (domains - length spelled.written))
