-- The tables of keys that were read.
use Rattle.std.proofs.Common.{◌≡◌, ◌∙◌, ℕ, zero, suc, ◌+◌, ◌*◌, ◌^◌, ◌<◌, ◌≤◌, List, [], ◌∷◌, true, length, map, drop, get_or, ltb, lt-ltb, refl, sym, ap, arith}
use Rattle.std.proofs.lemmas.List.{get_or-take}
use Rattle.list_facts.proofs.Listed.{length-listed}
use Rattle.table_schema.specs.declared.shapes.Kind.{Kind}
use Rattle.table_schema.specs.declared.shapes.Kind.TheVariants.{Point, AtMost, Interval}
use Rattle.table_schema.specs.declared.shapes.Part.{Part}
use Rattle.onehot_column.specs.Code.{width_of}
use Rattle.onehot_column.proofs.CodeLaws.{width_below}
use Rattle.ring128.specs.declared.party.Party.{Party}
use Rattle.query_plan.specs.declared.key.KeyPair.{KeyPair}
use Rattle.query_plan.specs.declared.key.PredicateKey.{PredicateKey}
use Rattle.query_plan.specs.KeyMessages.{Asked, KeysRead, message_length, part_length, pair_at, pairs_read, keys_read, parts_of, run_length, view_from}
use Rattle.query_plan.specs.Query.{predicate_at, shaped, no_predicate, part_of, Suits, IsPlaced}
use Rattle.query_plan.specs.declared.query.Predicate.{Predicate}
use Rattle.query_plan.specs.declared.query.Query.{Query}
use Rattle.table_schema.specs.declared.widths.Widths.{Widths}
use Rattle.query_plan.specs.PredicateKeys.{bits_of, key_of_words, table_of}
use Rattle.transcript.specs.Setup.{Sizes, count_of, column_of}
use Rattle.server_rounds.specs.Plans.{AreLegal, HasTables, sizes_for}

-- the bits of a key
bits_read : (kind : Kind) (n : ℕ) (ws : List ℕ) → bits_of (key_of_words kind n ws) ≡ n
bits_read Point n ws = length-listed n _
bits_read AtMost n ws = length-listed n _
bits_read Interval n ws = length-listed n _

pub record HasBits (n : ℕ) (pair : KeyPair) : Type 0 where
  pub party0 : bits_of pair.party0 ≡ n
  pub party1 : bits_of pair.party1 ≡ n

pair_bits : (bits : List ℕ) (parts : List Part) (ws : List ℕ) (j : ℕ) (d : Part) (e : KeyPair) → j < length parts
    → HasBits (get_or bits (get_or parts j d).column 0) (get_or (pairs_read bits parts ws) j e)
pair_bits bits [] ws j d e h = absurd (omega arith)
pair_bits bits (part ∷ parts) ws zero d e h = record { party0 = bits_read part.kind _ _; party1 = bits_read part.kind _ _ }
pair_bits bits (part ∷ parts) ws (suc j) d e h = pair_bits bits parts (drop (2 * part_length bits part) ws) j d e (omega arith)

length-pairs : (bits : List ℕ) (parts : List Part) (ws : List ℕ) → length (pairs_read bits parts ws) ≡ length parts
length-pairs bits [] ws = refl
length-pairs bits (part ∷ parts) ws = ap suc (length-pairs bits parts (drop (2 * part_length bits part) ws))

table_long : (party : Party) (k : PredicateKey) → length (table_of party k) ≡ 2 ^ bits_of k
table_long party k = length-listed (2 ^ bits_of k) _

-- the keys of a predicate, which stand in one of two lists
pair_has : (z : Sizes) (ws : List ℕ) (run j : ℕ) → AreLegal z → length (parts_of z.shape) ≡ count_of z → j < count_of z
    → HasBits (get_or z.widths.bits (column_of z j) 0) (pair_at (keys_read z.shape z.widths.bits ws) run j)
pair_has z ws zero j legal long h =
    let at = pair_bits z.widths.bits (parts_of z.shape) (drop 4 ws) j (record { column = 0; kind = Point }) _ (omega (arith, long)) in
    let same : (get_or (parts_of z.shape) j (record { column = 0; kind = Point })).column ≡ column_of z j = ap (λ (p : Part). p.column) (get_or-take (count_of z) z.shape.parts j _ h) in
    record { party0 = at.party0 ∙ ap (λ (n : ℕ). get_or z.widths.bits n 0) same; party1 = at.party1 ∙ ap (λ (n : ℕ). get_or z.widths.bits n 0) same }
pair_has z ws (suc run) j legal long h =
    let at = pair_bits z.widths.bits (parts_of z.shape) (drop (4 + run_length z.widths.bits (parts_of z.shape)) ws) j (record { column = 0; kind = Point }) _ (omega (arith, long)) in
    let same : (get_or (parts_of z.shape) j (record { column = 0; kind = Point })).column ≡ column_of z j = ap (λ (p : Part). p.column) (get_or-take (count_of z) z.shape.parts j _ h) in
    record { party0 = at.party0 ∙ ap (λ (n : ℕ). get_or z.widths.bits n 0) same; party1 = at.party1 ∙ ap (λ (n : ℕ). get_or z.widths.bits n 0) same }

pub has_tables : (z : Sizes) (ws : List ℕ) (keys : KeysRead) → AreLegal z → keys ≡ keys_read z.shape z.widths.bits ws → length keys.run0 ≡ count_of z → HasTables z keys
has_tables z ws keys legal e n =
    let long : length (parts_of z.shape) ≡ count_of z = sym (length-pairs z.widths.bits (parts_of z.shape) (drop 4 ws)) ∙ sym (ap (λ (k : KeysRead). length k.run0) e) ∙ n in
    let wide : (j : ℕ) → j < count_of z → 2 ^ get_or z.widths.bits (column_of z j) 0 ≡ width_of z.widths (column_of z j) = λ j h. sym (width_below z.widths (column_of z j) (legal.there j h)) in
    record {
      run0 = n;
      run1 = ap (λ (k : KeysRead). length k.run1) e ∙ length-pairs z.widths.bits (parts_of z.shape) _ ∙ long;
      party0 = λ run j h.
          ap (λ (k : KeysRead). length ((view_from k).party0 run j)) e ∙ table_long _ _
          ∙ ap (λ (n : ℕ). 2 ^ n) (pair_has z ws run j legal long h).party0 ∙ wide j h;
      party1 = λ run j h.
          ap (λ (k : KeysRead). length ((view_from k).party1 run j)) e ∙ table_long _ _
          ∙ ap (λ (n : ℕ). 2 ^ n) (pair_has z ws run j legal long h).party1 ∙ wide j h;
    }

part_at : (ps : List Predicate) (j : ℕ) → get_or (map part_of ps) j (part_of no_predicate) ≡ part_of (get_or ps j no_predicate)
part_at [] j = refl
part_at (p ∷ ps) zero = refl
part_at (p ∷ ps) (suc j) = part_at ps j

column_there : (columns : ℕ) (widths : List ℕ) (query : Query) (j : ℕ) → Suits columns widths query → j < query.count → (predicate_at query j).column < columns
column_there columns widths query j suits h =
    let yes : ltb j query.count ≡ true = lt-ltb j query.count h in
    let placed : IsPlaced columns widths query j = suits.placed j (omega (arith, suits.few)) in
    (rw yes at placed).legal.column

-- the numbers of a query that suits the widths are within the limits
pub legal_query : (rows : ℕ) (w : Widths) (query : Query) → rows ≤ 65536 → Suits w.columns w.bits query → AreLegal (record { rows = rows; widths = w; shape = shaped query })
legal_query rows w query few suits = record {
  rows = few;
  some = omega (arith, suits.some);
  few = suits.few;
  there = λ j h. omega (arith, column_there w.columns w.bits query j suits h, ap (λ (p : Part). p.column) (part_at query.predicates j));
}

-- a key message is as long as its reader wants it
pub sent_long : (asked : Asked) (z : Sizes) (rows : ℕ) (sent got : List ℕ) → z ≡ sizes_for asked rows
    → length sent ≡ message_length (shaped asked.query) asked.widths.bits → length got ≡ length sent → length got ≡ message_length z.shape z.widths.bits
sent_long asked z rows sent got same wanted long = long ∙ wanted ∙ sym (ap (λ (p : Sizes). message_length p.shape p.widths.bits) same)
