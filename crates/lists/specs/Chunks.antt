-- A list in chunks of n items: what stands in chunk i. Assumes nothing.
use Rattle.std.specs.Prelude.{◌≡◌, List, [], ℕ, zero, suc, ◌+◌, ◌*◌, ◌<◌, get_or, drop}
use Rattle.std.specs.Simd.{first_chunks}
use Rattle.std.proofs.Common.{ap, ◌∙◌, arith, get_or-take, get_or-drop}

module _ {A : Type 0} (n : ℕ) where
  -- item j of chunk i
  pub chunk_at : (m i j : ℕ) (xs : List A) (d : A) → i < m → j < n → get_or (get_or (first_chunks n m xs) i []) j d ≡ get_or xs (n * i + j) d
  chunk_at zero i j xs d h l = absurd (omega arith)
  chunk_at (suc m) zero j xs d h l = let e : j ≡ n * 0 + j = omega arith in get_or-take n xs j d l ∙ ap (λ (k : ℕ). get_or xs k d) e
  chunk_at (suc m) (suc i) j xs d h l =
      let e : n + (n * i + j) ≡ n * suc i + j = omega arith in
      chunk_at m i j (drop n xs) d (omega arith) l ∙ get_or-drop n xs (n * i + j) d ∙ ap (λ (k : ℕ). get_or xs k d) e
