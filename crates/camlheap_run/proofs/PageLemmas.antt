-- The front of a page of which a part was written.
use Rattle.std.proofs.Common.{◌≡◌, ℕ, ◌+◌, ◌≤◌, List, ◌++◌, length, take, ap, ◌∙◌, length-take-le, take-add, take_at, drop_at}
use Rattle.std.proofs.lemmas.List.{take-append-le}
use borrow.Rule.Slice.PartMut.{put_mid, post_of}

-- the page up to a place within the part: what stood before it, and the front of the part
pub front_of_part : (page part : List ℕ) (at count front : ℕ) → at ≤ length page → front ≤ length part → take (at + front) (put_mid at count page part) ≡ take at page ++ take front part
front_of_part page part at count front inside few =
    let before = length-take-le at page inside in
    let rest = part ++ post_of at count page in
    take-add at front (take at page ++ rest)
    ∙ (λ i. take_at (take at page) rest at before i ++ take front (drop_at (take at page) rest at before i))
    ∙ ap (λ (l : List ℕ). take at page ++ l) (take-append-le front part (post_of at count page) few)
