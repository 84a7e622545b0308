-- Sums over the rows of a bucket, without any message.
use Rattle.std.proofs.Common.{◌≡◌, ◌∙◌, refl, sym, ap, ℕ, ◌*◌, ◌<◌, Bool, true, false, cond, eqb, List, [], ◌∷◌, length, get_or, map, filter, arith}
use Rattle.std.specs.List.{flat_map}
use Rattle.std.proofs.lemmas.List.{get_or-map, length-map}
use Rattle.list_facts.specs.Listed.{listed}
use Rattle.list_facts.proofs.Listed.{get_or-listed}
use Rattle.ring128.specs.Ring.{plus, times, minus, dot_of, total_of, sums3}
use Rattle.ring128.specs.Laws.{IsThree}
use Rattle.ring128.proofs.Laws.{get_or-sums3, listed_add_up}
use Rattle.share_product.specs.Product.{inner_of}
use Rattle.share_product.proofs.Products.{inners_add_up}
use Rattle.scan_chunks.specs.Pieces.{row_of}
use Rattle.table_schema.specs.declared.shapes.Aggregate.{Aggregate}
use Rattle.table_schema.specs.declared.shapes.Aggregate.TheVariants.{Count, Sum}
use Rattle.transcript.specs.Shifts.{chain_sum}
use Rattle.transcript.proofs.Sums.{row_of-sums3, length-row_of, row_of-flat_map}
use Rattle.transcript.proofs.Steps.{openings_add_up}
use Rattle.server_rounds.proofs.Parts.{total_of-below}
use Rattle.bucket_groups.specs.Ending.{places_of}

-- three shares of a column's cells add up, at one bucket, to 1 at the rows of the bucket
pub places_add_up : {X : Type 0} (n w b : ℕ) (x y z : List ℕ) (rows : List X) (code : X → List ℕ) (bucket : X → ℕ) (d : X)
    → n ≡ length rows → IsThree (n * w) x y z → sums3 x y z ≡ flat_map code rows → ((row : X) → length (code row) ≡ w)
    → ((row : X) → code row ≡ listed w (λ (c : ℕ). cond (eqb c (bucket row)) 1 0)) → b < w
    → sums3 (places_of n w b x) (places_of n w b y) (places_of n w b z) ≡ map (λ (row : X). cond (eqb b (bucket row)) 1 0) rows
places_add_up n w b x y z rows code bucket d en three whole long is_code there =
    let hit : _ → ℕ = λ row. cond (eqb b (bucket row)) 1 0 in
    listed_add_up n _ _ _ _ (length-map rows hit ∙ sym en)
    (λ i h.
    let k : i < length rows = omega arith in
    let rx : IsThree w (row_of w i x) (row_of w i y) (row_of w i z) = record {
      first = length-row_of w i n x three.first h;
      second = length-row_of w i n y three.second h;
      third = length-row_of w i n z three.third h;
    } in
    sym (get_or-sums3 w b (row_of w i x) (row_of w i y) (row_of w i z) rx there)
    ∙ ap (λ (l : List ℕ). get_or l b 0)
    (sym (row_of-sums3 w i x y z) ∙ ap (λ (l : List ℕ). row_of w i l) whole ∙ row_of-flat_map code w long rows i d k ∙ is_code (get_or rows i d))
    ∙ get_or-listed w b (λ (c : ℕ). cond (eqb c (bucket (get_or rows i d))) 1 0) 0 there
    ∙ sym (get_or-map hit rows i d 0 k))

-- three openings of a bucket, each with a zero part
pub bucket_opens : (n : ℕ) (c0 c1 c2 v0 v1 v2 : List ℕ) (p q r : ℕ) → IsThree n c0 c1 c2 → IsThree n v0 v1 v2
    → plus (plus (plus (inner_of c0 c1 v0 v1) (minus p q)) (plus (inner_of c1 c2 v1 v2) (minus q r))) (plus (inner_of c2 c0 v2 v0) (minus r p))
    ≡ dot_of (sums3 c0 c1 c2) (sums3 v0 v1 v2)
bucket_opens n c0 c1 c2 v0 v1 v2 p q r x y =
    openings_add_up (inner_of c0 c1 v0 v1) (inner_of c1 c2 v1 v2) (inner_of c2 c0 v2 v0) p q r ∙ inners_add_up n c0 c1 c2 v0 v1 v2 x y

kept : {X : Type 0} (g : X → ℕ) (b : Bool) (x : X) (xs : List X) → plus (times (g x) (cond b 1 0)) (total_of (map g xs)) ≡ total_of (map g (cond b (x ∷ xs) xs))
kept g true x xs = omega arith
kept g false x xs = omega (arith, total_of-below (map g xs))

-- the sum at the rows that are hit
pub dot_of_hits : {X : Type 0} (g : X → ℕ) (p : X → Bool) (xs : List X)
    → dot_of (map g xs) (map (λ (x : X). cond (p x) 1 0) xs) ≡ total_of (map g (filter p xs))
dot_of_hits g p [] = refl
dot_of_hits g p (x ∷ xs) = rw (dot_of_hits g p xs) (kept g (p x) x (filter p xs))

total_of_products : {X : Type 0} (f v : X → ℕ) (xs : List X) → total_of (map (λ (x : X). times (f x) (v x)) xs) ≡ dot_of (map f xs) (map v xs)
total_of_products f v [] = refl
total_of_products f v (x ∷ xs) = ap (λ (n : ℕ). plus (times (f x) (v x)) n) (total_of_products f v xs)

-- what is shared of a row before the openings: the key where it passes, for a sum times its value
abbrev pub value_with : {X : Type 0} → Aggregate → (X → ℕ) → (X → ℕ) → X → ℕ
value_with Count f v x = f x
value_with Sum f v x = times (f x) (v x)

pub dot_of_bucket : {X : Type 0} (a : Aggregate) (f v : X → ℕ) (p : X → Bool) (xs : List X)
    → dot_of (map (value_with a f v) xs) (map (λ (x : X). cond (p x) 1 0) xs) ≡ chain_sum a (map f (filter p xs)) (map v (filter p xs))
dot_of_bucket Count f v p xs = dot_of_hits f p xs
dot_of_bucket Sum f v p xs = dot_of_hits (λ x. times (f x) (v x)) p xs ∙ total_of_products f v (filter p xs)
