-- What one server sends.
use Rattle.std.proofs.Common.{◌≡◌, ℕ, zero, suc, ◌+◌, ◌^◌, ◌<◌, List, [], ◌∷◌, ◌++◌, length, take, drop, sym, ap, ◌∙◌, arith}
use Rattle.std.proofs.Math.Seq.{take-append_seam}
use Rattle.list_facts.specs.Listed.{listed}
use Rattle.list_facts.proofs.Listed.{length-listed}
use Rattle.prg_chacha.specs.declared.seed.Seed.{Seed}
use Rattle.ring128.specs.Ring.{plus, sums, total_of}
use Rattle.ring128.proofs.Laws.{sums-listed, length-sums}
use Rattle.zero_share.specs.Zero.{part_of, parts_of}
use Rattle.scan_chunks.specs.Pieces.{Pieces}
use Rattle.scan_chunks.specs.Scan.{row_number}
use Rattle.onehot_column.specs.Code.{width_of}
use Rattle.query_plan.specs.Views.{View}
use Rattle.transcript.specs.Setup.{Sizes, count_of, column_of}
use Rattle.transcript.specs.Steps.{bits, product, counter_of}
use Rattle.transcript.specs.Formulas.{bits_words, product_words}
use Rattle.share_product.specs.Product.{locals_of}
use Rattle.share_product.proofs.Products.{rows_with_zero}
use Rattle.server_rounds.specs.Groups.{Pairs, AreLong, first_of, second_of}
use Rattle.server_rounds.specs.Rounds.{bit_numbers, locals_at}

pub total_of-below : (xs : List ℕ) → total_of xs < 2 ^ 128
total_of-below [] = omega arith
total_of-below (x ∷ xs) = omega arith

-- zero parts that were added to a vector in place
pub added_in_place : (numbers : List ℕ) (own next : Seed) (start len : ℕ) (items lent words : List ℕ)
    → items ≡ numbers → len ≡ length items → lent ≡ items → words ≡ sums lent (parts_of own next start (length lent))
    → take len (words ++ drop (length words) items) ≡ sums numbers (parts_of own next start (length numbers))
added_in_place numbers own next start len items lent words made size same added =
    let whole : words ≡ sums numbers (parts_of own next start (length numbers)) = added ∙ rw (same, made) in
    let long : length words ≡ length numbers = ap length whole ∙ length-sums numbers (parts_of own next start (length numbers)) (sym (length-listed (length numbers) _)) in
    let seam : len ≡ length words = size ∙ ap length made ∙ sym long in
    rw seam (take-append_seam words _ ∙ whole)

-- a number a row, each with its zero part
pub with_zeros : (rows : ℕ) (f : ℕ → ℕ) (own next : Seed) (start : ℕ) (numbers : List ℕ) → numbers ≡ listed rows f
    → sums numbers (parts_of own next start (length numbers)) ≡ listed rows (λ i. plus (f i) (part_of own next (start + i)))
with_zeros rows f own next start numbers e =
    let long : length numbers ≡ rows = ap length e ∙ length-listed rows f in
    ap (λ (n : ℕ). sums numbers (parts_of own next start n)) long
    ∙ ap (λ (l : List ℕ). sums l (parts_of own next start rows)) e
    ∙ sums-listed rows f (λ i. part_of own next (start + i))

-- the numbers of a scan with a predicate's tables
pub numbers_are : (z : Sizes) (run : ℕ) (view : View) (pieces : Pieces) (j : ℕ) (zeros ones : List ℕ) (column : ℕ)
    → column ≡ column_of z j → zeros ≡ view.party0 run j → ones ≡ view.party1 run j
    → listed z.rows (row_number zeros ones (width_of z.widths column) (pieces.first column) (pieces.second column)) ≡ bit_numbers z run view pieces j
numbers_are z run view pieces j zeros ones column e0 e1 e2 = rw (e1, e2, e0)

-- with their parts of zero they are the words
pub bits_are_words : (z : Sizes) (run : ℕ) (view : View) (pieces : Pieces) (j : ℕ) (own next : Seed) (start : ℕ) (numbers words : List ℕ)
    → words ≡ sums numbers (parts_of own next start (length numbers)) → numbers ≡ bit_numbers z run view pieces j
    → own ≡ view.own → next ≡ view.next → start ≡ counter_of (count_of z) run (bits j) → words ≡ bits_words z run view pieces j
bits_are_words z run view pieces j own next start numbers words made e e0 e1 e2 =
    made ∙ with_zeros z.rows _ own next start numbers e ∙ rw (e0, e1, e2)

-- the parts of a product
pub locals_are : (chain held : Pairs) (server : ℕ) (words a a' b b' : List ℕ) → words ≡ locals_of a a' b b'
    → a ≡ first_of chain server → a' ≡ second_of chain server → b ≡ first_of held server → b' ≡ second_of held server → words ≡ locals_at chain held server
locals_are chain held server words a a' b b' e e0 e1 e2 e3 = e ∙ rw (e0, e1, e2, e3)

-- with their parts of zero they are the words
pub product_is : (z : Sizes) (run : ℕ) (view : View) (j : ℕ) (chain held : Pairs) (server : ℕ) (own next : Seed) (start : ℕ) (numbers words : List ℕ)
    → words ≡ sums numbers (parts_of own next start (length numbers)) → numbers ≡ locals_at chain held server
    → own ≡ view.own → next ≡ view.next → start ≡ counter_of (count_of z) run (product j)
    → words ≡ product_words z run view j (first_of chain server) (second_of chain server) (first_of held server) (second_of held server)
product_is z run view j chain held server own next start numbers words made e e0 e1 e2 =
    made
    ∙ ap (λ (l : List ℕ). sums l (parts_of own next start (length l))) e
    ∙ rows_with_zero (first_of chain server) (second_of chain server) (first_of held server) (second_of held server) own next start _ (length-listed _ _)
    ∙ rw (e0, e1, e2)

-- a pair a row at each server
pub held_long : (n : ℕ) (pairs : Pairs) (k : ℕ) → k < 3 → AreLong n pairs → length (first_of pairs k) ≡ n
held_long n pairs zero h long = long.zero_first
held_long n pairs (suc zero) h long = long.one_first
held_long n pairs (suc (suc k)) h long = long.two_first
