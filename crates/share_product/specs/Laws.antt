-- What the parts of three servers add up to. Server 0 has shares a and b of the first factor, server 1 b and c,
-- server 2 c and a; of the second factor d and e, e and f, f and d; and the seeds of zero s and t, t and u, u and s.
use Rattle.std.specs.Prelude.{ℕ, ◌≡◌, ◌+◌, ◌%◌, List, ◌++◌, length, slice_index}
use Rattle.list_facts.specs.Listed.{listed}
use Rattle.prg_chacha.specs.declared.seed.Seed.{Seed}
use Rattle.ring128.specs.Laws.{IsThree}
use Rattle.ring128.specs.Ring.{plus, times, dot_of, sums3}
use Rattle.replicated_share.specs.Share.{AreShares}
use Rattle.share_product.specs.Product.{local_of, local_rows_of, inner_of}

-- the parts of a product add up to it
abbrev pub LocalsAddUp : Type 0
LocalsAddUp =
    (a b c d e f : ℕ)
    → plus (plus (local_of a b d e) (local_of b c e f)) (local_of c a f d) ≡ times (plus (plus a b) c) (plus (plus d e) f)

-- the parts of the products of two lists, with their parts of zero, add up to the products
abbrev pub RowsAddUp : Type 0
RowsAddUp =
    (n start : ℕ) (a b c d e f : List ℕ) (s t u : Seed) → IsThree n a b c → IsThree n d e f
    → sums3 (local_rows_of a b d e s t start) (local_rows_of b c e f t u start) (local_rows_of c a f d u s start)
    ≡ listed n (λ i. times (slice_index (sums3 a b c) i) (slice_index (sums3 d e f) i))

-- the parts of a dot product add up to it
abbrev pub InnersAddUp : Type 0
InnersAddUp =
    (n : ℕ) (a b c d e f : List ℕ) → IsThree n a b c → IsThree n d e f
    → plus (plus (inner_of a b d e) (inner_of b c e f)) (inner_of c a f d) ≡ dot_of (sums3 a b c) (sums3 d e f)

-- the part for lists that are joined, the first ones of one length, is the sum of the parts for each of them
abbrev pub InnersJoin : Type 0
InnersJoin =
    (n : ℕ) (a a' b b' c c' d d' : List ℕ) → length a ≡ n → length a' ≡ n → length b ≡ n → length b' ≡ n
    → inner_of (a ++ c) (a' ++ c') (b ++ d) (b' ++ d') ≡ plus (inner_of a a' b b') (inner_of c c' d d')

-- three lists of parts, each held by its server and by the one before, are shares of their sum
abbrev pub ReshareShares : Type 0
ReshareShares = (part : ℕ → List ℕ) (n : ℕ) → IsThree n (part 0) (part 1) (part 2)
    → AreShares part (λ k. part ((k + 1) % 3)) (sums3 (part 0) (part 1) (part 2))
