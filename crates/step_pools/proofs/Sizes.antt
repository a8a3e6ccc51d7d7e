-- The words of a block of a class, and the blocks of a pool of it, by a shift.
use Rattle.std.proofs.Common.{◌≡◌, ℕ, zero, suc, ◌*◌, ◌/◌, ◌%◌, ◌^◌, ◌<◌, refl, arith}
use Rattle.heap_rule.specs.Pools.{size_of, blocks_of}

pub size_shifted : (c : ℕ) → c < 9 → 4 * 2 ^ c % 2 ^ 32 ≡ size_of c
unfolding size_of
size_shifted zero h = refl
size_shifted (suc zero) h = refl
size_shifted (suc (suc zero)) h = refl
size_shifted (suc (suc (suc zero))) h = refl
size_shifted (suc (suc (suc (suc zero)))) h = refl
size_shifted (suc (suc (suc (suc (suc zero))))) h = refl
size_shifted (suc (suc (suc (suc (suc (suc zero)))))) h = refl
size_shifted (suc (suc (suc (suc (suc (suc (suc zero))))))) h = refl
size_shifted (suc (suc (suc (suc (suc (suc (suc (suc zero)))))))) h = refl
size_shifted (suc (suc (suc (suc (suc (suc (suc (suc (suc c))))))))) h = absurd (omega arith)

pub blocks_shifted : (c : ℕ) → c < 9 → 1024 / 2 ^ c ≡ blocks_of c
unfolding blocks_of size_of
blocks_shifted zero h = refl
blocks_shifted (suc zero) h = refl
blocks_shifted (suc (suc zero)) h = refl
blocks_shifted (suc (suc (suc zero))) h = refl
blocks_shifted (suc (suc (suc (suc zero)))) h = refl
blocks_shifted (suc (suc (suc (suc (suc zero))))) h = refl
blocks_shifted (suc (suc (suc (suc (suc (suc zero)))))) h = refl
blocks_shifted (suc (suc (suc (suc (suc (suc (suc zero))))))) h = refl
blocks_shifted (suc (suc (suc (suc (suc (suc (suc (suc zero)))))))) h = refl
blocks_shifted (suc (suc (suc (suc (suc (suc (suc (suc (suc c))))))))) h = absurd (omega arith)
