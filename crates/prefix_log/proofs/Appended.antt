-- Logs whose first places took rows in bulk.
use Rattle.std.proofs.Common.{Option, Result, Ok, Err, OnErr, OnOk, ◌≡◌, ◌≢◌, ◌∙◌, sym, ap, subst, ℕ, zero, suc, ◌+◌, ◌-◌, ◌/◌, ◌%◌, ◌<◌, ◌≤◌, ⊎_elim, Bool, true, false, cond, ltb, List, [], ◌∷◌, ◌++◌, drop, length, get_or, replicate, arith}
use Rattle.std.specs.Result.{is_ok}
use Rattle.std.specs.Prelude.{pos, Some, None, is_some, nat_lt}
use Rattle.std.specs.List.{range_with_len}
use Rattle.std.proofs.lemmas.Bool.{cases_lt}
use Rattle.std.proofs.lemmas.Bool.Decides.{nat_tests}
use Rattle.std.proofs.lemmas.List.{get_or_past}
use Rattle.list_facts.specs.Count.{has, times, once_below}
use Rattle.list_facts.proofs.Count.{once_below-more, times-append}
use Rattle.table_schema.specs.Widths.{Fits, code_length, column_bits}
use Rattle.table_schema.specs.declared.widths.Widths.{Widths}
use Rattle.table_schema.specs.declared.rows.Row.{Row}
use Rattle.prg_chacha.specs.declared.seed.Seed.{Seed}
use Rattle.replicated_share.specs.Share.{share_of}
use Rattle.list_facts.proofs.Listed.{length-listed}
use Rattle.onehot_column.specs.Code.{cells_at, code_of}
use Rattle.onehot_column.proofs.CodeLaws.{length-code_of}
use Rattle.prefix_log.specs.declared.bulk.Entry.{Entry}
use Rattle.prefix_log.proofs.Columns.{columns_join}
use Rattle.prefix_log.proofs.Ranges.{rows_same}
use Rattle.onehot_column.specs.Piece.{HasWidths, IsPiece}
use Rattle.onehot_column.specs.declared.piece.Piece.{Piece}
use Rattle.prefix_log.specs.Bulk.{HasPieces, IsFree, RowIs, TakesRows}
use Rattle.prefix_log.specs.Chunks.{Halves, HasRows, IsStored, Store, chunk_at, part_at, stored_piece, stored_slots}
use Rattle.prefix_log.specs.Journal.{IsJournal, start}
use Rattle.prefix_log.specs.Logs.{IsKept, Log, empty_log, log_of, piece_at}
use Rattle.prefix_log.proofs.Kept.{filled_below}
use Rattle.prefix_log.proofs.Logged.{log_legal, of_cond}
use Rattle.prefix_log.proofs.Marked.{journal_placed, no_mark_no_start}
use Rattle.prefix_log.proofs.Stored.{stored_at, stored_first, stored_second, stored_length, stored_none, stored_server, stored_widths}

pub lt_same : (x i : ℕ) → x ≡ i → nat_lt x (i + 1) ≡ true
lt_same x i e = grind (arith, nat_tests)

pub lt_more : (x i : ℕ) → x ≢ i → nat_lt x (i + 1) ≡ nat_lt x i
lt_more x i ne = grind (arith, nat_tests)

pub lt_yes : (x i : ℕ) → x < i → nat_lt x i ≡ true
lt_yes x i lt = grind (arith, nat_tests)

pub lt_not : (x : ℕ) → nat_lt x x ≡ false
lt_not x = grind (arith, nat_tests)

pub yes_lt : (x i : ℕ) → nat_lt x i ≡ true → x < i
yes_lt x i e = grind (arith, nat_tests)

range_end : (a n : ℕ) → range_with_len a (n + 1) ≡ range_with_len a n ++ (a + n) ∷ []
range_end a zero = ap (λ (m : ℕ). m ∷ []) (omega arith)
range_end a (suc n) =
    let e : suc n + 1 ≡ suc (n + 1) = omega arith in
    let last : a + 1 + n ≡ a + suc n = omega arith in
    ap (range_with_len a) e ∙ ap (λ (xs : List ℕ). a ∷ xs) (range_end (a + 1) n ∙ ap (λ (m : ℕ). range_with_len (a + 1) n ++ m ∷ []) last)

pub range_more : (n : ℕ) → range_with_len 0 (n + 1) ≡ range_with_len 0 n ++ n ∷ []
range_more n = let e : 0 + n ≡ n = omega arith in range_end 0 n ∙ ap (λ (m : ℕ). range_with_len 0 n ++ m ∷ []) e

-- each number below n is once among them
times_range : (x n : ℕ) → times x (range_with_len 0 n) ≡ once_below x n
times_range x zero = grind (arith, nat_tests)
times_range x (suc n) =
    let e : suc n ≡ n + 1 = omega arith in
    ap (λ (m : ℕ). times x (range_with_len 0 m)) e ∙ ap (times x) (range_more n) ∙ times-append x (range_with_len 0 n) (n ∷ [])
    ∙ ap (λ (m : ℕ). m + times x (n ∷ [])) (times_range x n) ∙ sym (once_below-more x n) ∙ ap (once_below x) (sym e)

some_below : (x n : ℕ) → ltb 0 (once_below x n) ≡ nat_lt x n
some_below x n = grind (arith, nat_tests)

has_range : (x n : ℕ) → has x (range_with_len 0 n) ≡ nat_lt x n
has_range x n = ap (ltb 0) (times_range x n) ∙ some_below x n

range_journal : (capacity n : ℕ) → n ≤ capacity → IsJournal capacity (range_with_len 0 n)
range_journal capacity zero le = tt
range_journal capacity (suc n) le =
    let e : suc n ≡ n + 1 = omega arith in
    subst (IsJournal capacity) (sym (ap (range_with_len 0) e ∙ range_more n))
    (journal_placed capacity (range_with_len 0 n) n (range_journal capacity n (omega arith)) (omega arith) (has_range n n ∙ lt_not n))

module _ (space server capacity first : ℕ) (w : Widths) (journal : List ℕ) (filled : List Bool) (new : Store) (fits : Fits (column_bits w) capacity) (room : capacity + capacity / 64 ≤ space) (zero_first : first ≡ 0) (m : ℕ)
    (le : m ≤ capacity) (j : journal ≡ range_with_len 0 m) (marks : length filled ≡ capacity) (f : (place : ℕ) → get_or filled place false ≡ nat_lt place m) (free : IsFree w capacity new)
    (rows : (place : ℕ) → place < m → HasRows w (place % 64 + 1) (chunk_at new.chunks (place / 64))) where
  places : (x : ℕ) → has x journal ≡ nat_lt x m
  places x = ap (has x) j ∙ has_range x m

  begin : start journal ≡ first
  begin = no_mark_no_start capacity journal fits.1 (λ x there. let lt : x < m = yes_lt x m (sym (places x) ∙ there) in omega arith) ∙ sym zero_first

  filled_are : (place : ℕ) → place < capacity → get_or filled place false ≡ has place journal
  filled_are place lt = f place ∙ sym (places place)

  pub taken_kept : IsKept space m first filled (log_of server w capacity journal first filled new.chunks)
  taken_kept = record {
    legal = log_legal server capacity first w journal filled new.chunks fits marks (omega (arith, zero_first)) (subst (IsJournal capacity) (sym j) (range_journal capacity m le)) begin filled_are;
    room = room;
    reach = record { below = λ place lt. places place ∙ lt_yes place m lt; next = places m ∙ lt_not m };
    begin = begin;
    marks = marks;
    filled_are = filled_are;
  }

  pub taken_stored : IsStored w (capacity - first) (m - first) (drop first filled) new
  taken_stored =
      let all : capacity ≡ capacity - 0 = omega arith in
      let most : m ≡ m - 0 = omega arith in
      subst (λ (n : ℕ). IsStored w (capacity - n) (m - n) (drop n filled) new) (sym zero_first)
      (subst (λ (n : ℕ). IsStored w n (m - 0) filled new) all (subst (λ (n : ℕ). IsStored w capacity n filled new) most (record {
        marks = marks;
        places = free.places;
        rows = λ place marked. rows place (yes_lt place m (sym (f place) ∙ marked));
        shared = (let z = free.none in omega arith);
      })))

-- the slots of a log that retired nothing
slots_all : (server capacity first : ℕ) (w : Widths) (journal : List ℕ) (filled : List Bool) (chunks : List (List Halves)) → first ≡ 0 → (log_of server w capacity journal first filled chunks).slots ≡ stored_slots server w capacity filled chunks
slots_all server capacity first w journal filled chunks none =
    let all : capacity - 0 ≡ capacity = omega arith in
    ap (λ (n : ℕ). replicate n None ++ stored_slots server w (capacity - n) (drop n filled) chunks) none ∙ ap (λ (n : ℕ). stored_slots server w n filled chunks) all

-- and the piece of one
taken_piece : (server capacity m : ℕ) (w : Widths) (filled : List Bool) (chunks : List (List Halves)) → ((place : ℕ) → get_or filled place false ≡ nat_lt place m) → (place : ℕ) (piece : Piece)
    → piece_at (stored_slots server w capacity filled chunks) place ≡ Some piece → (place < m) × (stored_piece server w chunks place ≡ piece)
taken_piece server capacity m w filled chunks f place piece e =
    let within : place < capacity = omega (arith, filled_below (stored_slots server w capacity filled chunks) place (ap is_some e), stored_length server w capacity filled chunks) in
    let both = of_cond (get_or filled place false) (stored_piece server w chunks place) piece (sym (stored_at server w capacity filled chunks place within) ∙ e) in
    (yes_lt place m (sym (f place) ∙ both.0), both.1)

-- ---- logs without pieces

module _ (space prefix first server capacity k n : ℕ) (v w : Widths) (journal : List ℕ) (filled : List Bool) (store : Store) (kept : IsKept space prefix first filled (log_of server v capacity journal first filled store.chunks))
    (stored : IsStored v (capacity - first) (prefix - first) (drop first filled) store) (e : log_of server v capacity journal first filled store.chunks ≡ empty_log k w n) where
  nothing : journal ≡ []
  nothing = ap (λ (log : Log). log.journal) e

  pub no_first : first ≡ 0
  no_first = sym kept.begin ∙ ap start nothing

  no_prefix : prefix ≡ 0
  no_prefix = ⊎_elim (λ (lt : 0 < prefix). let yes = kept.reach.below 0 lt in let no : has 0 journal ≡ false = ap (has 0) nothing in absurd cc)
      (λ (le : prefix ≤ 0). omega arith) (cases_lt 0 prefix)

  pub widths_are : v ≡ w
  widths_are = ap (λ (log : Log). log.widths) e

  pub capacity_is : capacity ≡ n
  capacity_is = ap (λ (log : Log). log.capacity) e

  pub server_is : server ≡ k
  server_is = ap (λ (log : Log). log.server) e

  pub blank_free : IsFree w n store
  blank_free =
      let all : capacity - first ≡ n = omega (arith, no_first, capacity_is) in
      let have : IsFree v (capacity - first) store = record { none = (let s = stored.shared in omega (arith, no_prefix)); places = stored.places } in
      subst (λ (x : Widths). IsFree x n store) widths_are (subst (λ (m : ℕ). IsFree v m store) all have)

  pub free_again : (new : Store) → IsFree w n new → IsFree v capacity new
  free_again new have = subst (λ (x : Widths). IsFree x capacity new) (sym widths_are) (subst (λ (m : ℕ). IsFree w m new) (sym capacity_is) have)

  -- no place is marked
  pub unmarked : (place : ℕ) → get_or filled place false ≡ false
  unmarked place = ⊎_elim (λ (lt : place < capacity). kept.filled_are place lt ∙ ap (has place) nothing)
      (λ (past : capacity ≤ place). get_or_past filled place false (omega (arith, kept.marks))) (cases_lt place capacity)

-- ---- rows that were taken

no_entry : Entry
no_entry = record { row = record { columns = 0; buckets = []; value = pos 0 }; seed = record { words = [] } }

share_long : (w : Widths) (k : ℕ) (seed : Seed) (row : Row) → length (share_of k seed (code_of w row)) ≡ code_length (column_bits w)
share_long w zero seed row = length-listed (length (code_of w row)) _ ∙ length-code_of w row
share_long w (suc zero) seed row = length-listed (length (code_of w row)) _ ∙ length-code_of w row
share_long w (suc (suc k)) seed row = length-listed (length (code_of w row)) _ ∙ length-code_of w row

piece_is : (w : Widths) (k : ℕ) (e : Entry) (chunks : List (List Halves)) (place : ℕ) → RowIs w k e (place % 64) (chunk_at chunks (place / 64)) → IsPiece w e.row e.seed k (stored_piece k w chunks place)
piece_is w k e chunks place row = record {
  server = stored_server k w chunks place;
  first = stored_first k w chunks place
      ∙ rows_same (part_at (λ h. h.first) w chunks place) (λ (c : ℕ). cells_at w c (share_of k e.seed (code_of w e.row))) 0 0 (w.columns + 1) (λ c lt. row.first (0 + c) (omega arith))
      ∙ columns_join w (share_of k e.seed (code_of w e.row)) (share_long w k e.seed e.row);
  second = stored_second k w chunks place
      ∙ rows_same (part_at (λ h. h.second) w chunks place) (λ (c : ℕ). cells_at w c (share_of ((k + 1) % 3) e.seed (code_of w e.row))) 0 0 (w.columns + 1) (λ c lt. row.second (0 + c) (omega arith))
      ∙ columns_join w (share_of ((k + 1) % 3) e.seed (code_of w e.row)) (share_long w ((k + 1) % 3) e.seed e.row);
}

-- as many rows as were counted
pub counted_rows : {T E : Type 0} (r : Result T E) (n m k : ℕ) (v w : Widths) (entries : List Entry) (chunks : List (List Halves)) → m ≡ cond (is_ok r) n 0 → n ≡ length entries → v ≡ w → OnOk r (HasPieces w k entries chunks)
    → (place : ℕ) → place < m → HasRows v (place % 64 + 1) (chunk_at chunks (place / 64))
counted_rows (Ok x) n m k v w entries chunks e all same has place lt = subst (λ (u : Widths). HasRows u (place % 64 + 1) (chunk_at chunks (place / 64))) (sym same) (has place no_entry (omega arith)).there
counted_rows (Err x) n m k v w entries chunks e all same has place lt = absurd (omega arith)

pub counted_most : {T E : Type 0} (r : Result T E) (n m : ℕ) → m ≡ cond (is_ok r) n 0 → m ≤ n
counted_most (Ok x) n m e = omega arith
counted_most (Err x) n m e = omega arith

pub takes : {T E : Type 0} (r : Result T E) (m server capacity first k : ℕ) (v w : Widths) (entries : List Entry) (journal : List ℕ) (filled : List Bool) (store : Store)
    → m ≡ cond (is_ok r) (length entries) 0 → server ≡ k → v ≡ w → capacity ≡ length entries → first ≡ 0 → journal ≡ range_with_len 0 m → ((place : ℕ) → get_or filled place false ≡ nat_lt place m)
    → OnOk r (HasPieces w k entries store.chunks) → OnOk r (TakesRows w k entries (log_of server v capacity journal first filled store.chunks))
takes (Err x) m server capacity first k v w entries journal filled store e es ew ec none j f has = tt
takes (Ok x) m server capacity first k v w entries journal filled store e es ew ec none j f has = record {
  server = es;
  widths = ew;
  capacity = ec;
  journal = j ∙ ap (range_with_len 0) e;
  pieces = λ place piece d at.
      let t = taken_piece server capacity m v filled store.chunks f place piece (ap (λ (slots : List (Option Piece)). piece_at slots place) (sym (slots_all server capacity first v journal filled store.chunks none)) ∙ at) in
      let lt : place < length entries = omega (arith, t.0) in
      let named : stored_piece k w store.chunks place ≡ piece =
      ap (λ (i : ℕ). stored_piece i w store.chunks place) (sym es) ∙ ap (λ (u : Widths). stored_piece server u store.chunks place) (sym ew) ∙ t.1 in (
        lt,
        subst (IsPiece w (get_or entries place d).row (get_or entries place d).seed k) named (piece_is w k (get_or entries place d) store.chunks place (has place d lt)),
        subst (HasWidths w) named (stored_widths k w store.chunks place),
      );
}

-- no rows that were taken
pub takes_none : {T E : Type 0} (r : Result T E) (m server capacity first k n : ℕ) (v w : Widths) (journal : List ℕ) (filled : List Bool) (store : Store) (old : Log)
    → m ≡ cond (is_ok r) n 0 → server ≡ k → v ≡ w → capacity ≡ n → first ≡ 0 → journal ≡ range_with_len 0 m → ((place : ℕ) → get_or filled place false ≡ nat_lt place m) → old ≡ empty_log k w n
    → OnErr r (log_of server v capacity journal first filled store.chunks ≡ old)
takes_none (Ok x) m server capacity first k n v w journal filled store old e es ew ec none j f is = tt
takes_none (Err x) m server capacity first k n v w journal filled store old e es ew ec none j f is =
    let free : (place : ℕ) → place < capacity → get_or filled place false ≡ false = λ place lt. f place ∙ ap (nat_lt place) e ∙ never place in
    let journal_none : journal ≡ [] = j ∙ ap (range_with_len 0) e in
    ap (λ (slots : List (Option Piece)). record { server = server; widths = v; capacity = capacity; journal = journal; slots = slots })
    (slots_all server capacity first v journal filled store.chunks none ∙ stored_none server v capacity filled store.chunks free)
    ∙ ap (λ (l : List ℕ). record { server = server; widths = v; capacity = capacity; journal = l; slots = (empty_log server v capacity).slots }) journal_none
    ∙ ap (λ (i : ℕ). empty_log i v capacity) es ∙ ap (λ (u : Widths). empty_log k u capacity) ew ∙ ap (empty_log k w) ec ∙ sym is
  where
    never : (place : ℕ) → nat_lt place 0 ≡ false
    never place = grind (arith, nat_tests)
