-- Laws of widths.
use Rattle.std.proofs.Common.{◌≡◌, ◌≢◌, ◌∙◌, refl, sym, ap, ℕ, ◌+◌, ◌*◌, ◌%◌, ◌^◌, ◌<◌, ◌≤◌, List, [], ◌∷◌, length, take, get_or, set, map, get_or-set_other, arith}
use Rattle.std.proofs.Math.Nat.{mod-eq_of_lt}
use Rattle.std.proofs.Math.Pow.{pow_mono}
use Rattle.std.proofs.lemmas.List.{take_more, take_more_set, get_or-map, get_or-take, map_push}
use Rattle.std.proofs.lemmas.List.Sums.{sum_by-append}
use Rattle.table_schema.specs.Column.{AreColumns}
use Rattle.table_schema.specs.Limits.{AreWidths}
use Rattle.table_schema.specs.Widths.{code_length}
use Rattle.table_schema.specs.declared.schema.Column.{Column}

-- the power of the bits of a column
pub few_bits : (b : ℕ) → b ≤ 8 → 2 ^ b ≤ 256
few_bits b h = pow_mono h

pub shifted : (b : ℕ) → b ≤ 8 → 1 * (2 ^ b) % 18446744073709551616 ≡ 2 ^ b
shifted b h = let k : 1 * (2 ^ b) < 18446744073709551616 = omega (arith, few_bits b h) in mod-eq_of_lt k ∙ omega arith

pub code_more : (bits : List ℕ) (i : ℕ) → i < length bits → code_length (take (i + 1) bits) ≡ code_length (take i bits) + 2 ^ get_or bits i 0
code_more bits i lt = rw (take_more bits i 0 lt, sum_by-append (λ b. 2 ^ b) (take i bits) (get_or bits i 0 ∷ [])) (omega arith)

-- the bits of the columns, one more
pub bits_more : (bits : List ℕ) (columns : List Column) (i : ℕ) (k : Column) → i < length bits → i < length columns → k ≡ get_or columns i k
    → take i bits ≡ map (λ c. c.bits) (take i columns) → take (i + 1) (set bits i k.bits) ≡ map (λ c. c.bits) (take (i + 1) columns)
bits_more bits columns i k lb lc e so_far =
    rw (take_more_set bits i k.bits lb, take_more columns i k lc, map_push (λ (c : Column). c.bits) (take i columns) (get_or columns i k), so_far, ← e) refl

pub rest_more : (bits : List ℕ) (i b : ℕ) → ((k : ℕ) → i ≤ k → get_or bits k 0 ≡ 0) → (k : ℕ) → i + 1 ≤ k → get_or (set bits i b) k 0 ≡ 0
rest_more bits i b rest k le = let ne : k ≢ i = omega arith in get_or-set_other bits i k b 0 ne ∙ rest k (omega arith)

pub are_widths : (bits : List ℕ) (columns : List Column) (n : ℕ) → n ≡ length columns → AreColumns columns → take n bits ≡ map (λ c. c.bits) columns
    → ((k : ℕ) → n ≤ k → get_or bits k 0 ≡ 0) → AreWidths n bits
are_widths bits columns n e legal kept rest =
    (omega (arith, legal.0), omega (arith, legal.1), (λ i lt. each i lt), rest)
  where
    each : (i : ℕ) → i < n → (0 < get_or bits i 0) × (get_or bits i 0 ≤ 8)
    each i lt =
        let d : Column = record { name = []; bits = 0; start = 0; step = 0 } in
        let lc : i < length columns = omega arith in
        let same : get_or bits i 0 ≡ (get_or columns i d).bits = sym (get_or-take n bits i 0 lt) ∙ ap (λ (xs : List ℕ). get_or xs i 0) kept ∙ get_or-map (λ (c : Column). c.bits) columns i d 0 lc in
        let fits = legal.2 i d lc in
        rw same (fits.0, fits.1)
