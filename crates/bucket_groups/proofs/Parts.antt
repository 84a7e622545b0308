-- What one server sends after the products of the bits.
use Rattle.std.proofs.Common.{◌≡◌, ◌∙◌, ap, ℕ, ◌+◌, ◌*◌, List, length}
use Rattle.prg_chacha.specs.declared.seed.Seed.{Seed}
use Rattle.ring128.specs.Ring.{sums}
use Rattle.zero_share.specs.Zero.{parts_of}
use Rattle.share_product.specs.Product.{locals_of, inner_of}
use Rattle.scan_chunks.specs.Pieces.{Pieces}
use Rattle.onehot_column.specs.Code.{width_of}
use Rattle.query_plan.specs.Views.{View}
use Rattle.transcript.specs.Setup.{Sizes}
use Rattle.list_facts.proofs.Listed.{length-listed}
use Rattle.share_product.proofs.Products.{rows_with_zero}
use Rattle.server_rounds.proofs.Parts.{with_zeros}
use Rattle.bucket_groups.specs.Ending.{value_words, value_products, bucket_words, places_of, sums_of}

-- the parts of the products with the values
pub products_are : (z : Sizes) (pieces : Pieces) (a a' first second vf vs numbers : List ℕ) (column : ℕ) → numbers ≡ locals_of a a' vf vs
    → a ≡ first → a' ≡ second → column ≡ z.widths.columns → vf ≡ pieces.first column → vs ≡ pieces.second column → numbers ≡ value_products z pieces first second
products_are z pieces a a' first second vf vs numbers column e ea ea' e0 e1 e2 = e ∙ rw (ea, ea', e1, e2, e0)

-- with their parts of zero they are the words
pub values_are : (z : Sizes) (run : ℕ) (view : View) (pieces : Pieces) (first second numbers words : List ℕ) (own next : Seed) (start : ℕ)
    → words ≡ sums numbers (parts_of own next start (length numbers)) → numbers ≡ value_products z pieces first second
    → own ≡ view.own → next ≡ view.next → start ≡ (32 + 2 * run) * 65536 → words ≡ value_words z run view pieces first second
values_are z run view pieces first second numbers words own next start made e e0 e1 e2 =
    let value = z.widths.columns in
    made
    ∙ ap (λ (l : List ℕ). sums l (parts_of own next start (length l))) e
    ∙ rows_with_zero first second (pieces.first value) (pieces.second value) own next start _ (length-listed _ _)
    ∙ rw (e0, e1, e2)

pub buckets_are : (z : Sizes) (column run : ℕ) (view : View) (pieces : Pieces) (first second a a' x y numbers : List ℕ) (own next : Seed) (start n width : ℕ)
    → start ≡ (33 + 2 * run) * 65536 → n ≡ z.rows → width ≡ width_of z.widths column → a ≡ first → a' ≡ second
    → x ≡ pieces.first column → y ≡ pieces.second column → own ≡ view.own → next ≡ view.next → numbers ≡ sums_of n width a a' x y
    → sums numbers (parts_of own next start (length numbers)) ≡ bucket_words z column run view pieces first second
buckets_are z column run view pieces first second a a' x y numbers own next start n width es e0 e1 ea ea' e2 e3 e4 e5 e =
    with_zeros width (λ b. inner_of a a' (places_of n width b x) (places_of n width b y)) own next start numbers e
    ∙ rw (es, e0, e1, ea, ea', e2, e3, e4, e5)
