-- Logs whose pieces are stored in chunks.
use Rattle.std.proofs.Common.{◌≡◌, ◌∙◌, refl, sym, ap, subst, ℕ, ◌+◌, ◌-◌, ◌*◌, ◌/◌, ◌%◌, ◌<◌, ◌≤◌, ⊎_elim, min, Bool, true, false, cond, ltb, List, [], ◌∷◌, ◌++◌, drop, length, get_or, set, replicate, take, arith}
use Rattle.std.specs.Prelude.{Option, Some, None, is_some}
use Rattle.std.proofs.lemmas.Bool.{cases_lt, le-ltb, lt-ltb}
use Rattle.std.proofs.lemmas.List.{drop_at, drop-drop, drop-set-add, get_or-drop, get_or-set_other, get_or-set_same, length-append, length-drop, length-replicate, length-set}
use Rattle.list_facts.specs.Count.{has}
use Rattle.table_schema.specs.Widths.{Fits, column_bits}
use Rattle.table_schema.specs.declared.widths.Widths.{Widths}
use Rattle.onehot_column.specs.declared.piece.Piece.{Piece}
use Rattle.scan_chunks.specs.Shelf.{Held}
use Rattle.prefix_log.specs.Chunks.{AreFirst, Halves, HaveRows, IsStored, PlaceWritten, Store, first_rows, stored_piece, stored_slots}
use Rattle.prefix_log.specs.Journal.{IsJournal, IsPrefixOf, is_kept, mark_of, prefix, start, start_for}
use Rattle.prefix_log.specs.Logs.{IsKept, IsLog, IsOwn, empty_log, log_of, piece_at, placed, retired, slots_from}
use Rattle.prefix_log.specs.Snapshots.{HoldsPieces, pieces_in}
use Rattle.prefix_log.proofs.Fixed.{first_holds}
use Rattle.prefix_log.proofs.Kept.{by_place, filled_below, same_some}
use Rattle.prefix_log.proofs.Leading.{lead_after, lead_before, lead_drop, lead_length, lead_set}
use Rattle.prefix_log.proofs.Marked.{few_entries, has_kept, has_other, has_self, journal_marked, journal_placed, place_below, prefix_below, start_marked, start_placed, start_whole, start_within}
use Rattle.prefix_log.proofs.Prefixes.{prefix_is}
use Rattle.prefix_log.proofs.Stored.{slots_dropped, slots_written, stored_at, stored_length, stored_marks, stored_none, stored_server, stored_widths}
use Rattle.prefix_log.proofs.Written.{none_marked, stored_dropped, written_stored}

-- ---- a log by its journal and its marks

-- the piece of a slot
pub of_cond : (b : Bool) (p q : Piece) → cond b (Some p) None ≡ Some q → (b ≡ true) × (p ≡ q)
of_cond true p q e = (refl, same_some p q e)
of_cond false p q e = absurd cc

stored_own : (k : ℕ) (w : Widths) (capacity : ℕ) (filled : List Bool) (chunks : List (List Halves)) (place : ℕ) (piece : Piece) → piece_at (stored_slots k w capacity filled chunks) place ≡ Some piece → IsOwn k w piece
stored_own k w capacity filled chunks place piece e =
    let within : place < capacity = omega (arith, filled_below (stored_slots k w capacity filled chunks) place (ap is_some e), stored_length k w capacity filled chunks) in
    let both = of_cond (get_or filled place false) (stored_piece k w chunks place) piece (sym (stored_at k w capacity filled chunks place within) ∙ e) in
    subst (IsOwn k w) both.1 (record { server = stored_server k w chunks place; widths = stored_widths k w chunks place })

pub log_legal : (server capacity first : ℕ) (w : Widths) (journal : List ℕ) (filled : List Bool) (chunks : List (List Halves)) → Fits (column_bits w) capacity → length filled ≡ capacity → first ≤ capacity
    → IsJournal capacity journal → start journal ≡ first → ((place : ℕ) → place < capacity → get_or filled place false ≡ has place journal) → IsLog (log_of server w capacity journal first filled chunks)
log_legal server capacity first w journal filled chunks fits marks le legal begin filled_are = record {
  fits = fits;
  places = lead_length first (stored_slots server w (capacity - first) (drop first filled) chunks) ∙ omega (arith, stored_length server w (capacity - first) (drop first filled) chunks);
  journal = legal;
  kept = λ place lt. ⊎_elim (λ (less : place < first). before place less) (λ (late : first ≤ place). from place late lt) (cases_lt place first);
  own = λ place piece e. ⊎_elim
      (λ (less : place < first). let none : None ≡ Some piece = sym (lead_before first (stored_slots server w (capacity - first) (drop first filled) chunks) place less) ∙ e in absurd cc)
      (λ (late : first ≤ place). stored_own server w (capacity - first) (drop first filled) chunks (place - first) piece (sym (lead_after first (stored_slots server w (capacity - first) (drop first filled) chunks) place late) ∙ e))
      (cases_lt place first);
}
  where
    before : (place : ℕ) → place < first → is_some (piece_at (log_of server w capacity journal first filled chunks).slots place) ≡ is_kept place journal
    before place less =
        ap is_some (lead_before first (stored_slots server w (capacity - first) (drop first filled) chunks) place less)
        ∙ sym (ap (λ (n : ℕ). cond (ltb place n) false (has place journal)) begin ∙ ap (λ (b : Bool). cond b false (has place journal)) (lt-ltb place first less))

    from : (place : ℕ) → first ≤ place → place < capacity → is_some (piece_at (log_of server w capacity journal first filled chunks).slots place) ≡ is_kept place journal
    from place late lt =
        let size : length (drop first filled) ≡ capacity - first = omega (arith, length-drop first filled) in
        let same : first + (place - first) ≡ place = omega arith in
        ap is_some (lead_after first (stored_slots server w (capacity - first) (drop first filled) chunks) place late)
        ∙ stored_marks server w (capacity - first) (drop first filled) chunks size (place - first)
        ∙ get_or-drop first filled (place - first) false ∙ ap (λ (n : ℕ). get_or filled n false) same ∙ filled_are place lt
        ∙ sym (ap (λ (n : ℕ). cond (ltb place n) false (has place journal)) begin ∙ ap (λ (b : Bool). cond b false (has place journal)) (le-ltb place first late))

-- ---- a new log

module _ (server capacity : ℕ) (w : Widths) (journal : List ℕ) (filled : List Bool) (none : journal ≡ []) (free : filled ≡ replicate capacity false) where
  all_places : capacity - 0 ≡ capacity
  all_places = omega arith

  pub new_is : (chunks : List (List Halves)) → log_of server w capacity journal 0 filled chunks ≡ empty_log server w capacity
  new_is chunks =
      ap (λ (j : List ℕ). log_of server w capacity j 0 filled chunks) none
      ∙ ap (λ (slots : List (Option Piece)). record { server = server; widths = w; capacity = capacity; journal = []; slots = slots })
      (ap (λ (n : ℕ). stored_slots server w n filled chunks) all_places ∙ stored_none server w capacity filled chunks (λ place lt. none_marked capacity filled free place))

  pub new_log_kept : (space : ℕ) (chunks : List (List Halves)) → Fits (column_bits w) capacity → capacity + capacity / 64 ≤ space → IsKept space 0 0 filled (log_of server w capacity journal 0 filled chunks)
  new_log_kept space chunks fits room =
      let marks : length filled ≡ capacity = ap length free ∙ length-replicate capacity false in
      let filled_are = λ (place : ℕ). λ (lt : place < capacity). none_marked capacity filled free place ∙ sym (ap (has place) none) in
      record {
        legal = log_legal server capacity 0 w journal filled chunks fits marks (omega arith) (subst (IsJournal capacity) (sym none) tt) (ap start none) filled_are;
        room = room;
        reach = record { below = λ place lt. absurd (omega arith); next = ap (has 0) none };
        begin = ap start none;
        marks = marks;
        filled_are = filled_are;
      }

  pub new_log_stored : (store : Store) → IsStored w capacity 0 filled store → IsStored w (capacity - 0) (0 - 0) (drop 0 filled) store
  new_log_stored store stored = subst (λ (n : ℕ). IsStored w n 0 filled store) (sym all_places) stored

-- ---- a log and its store

module _ (space upto first server : ℕ) (w : Widths) (capacity : ℕ) (journal : List ℕ) (filled : List Bool) (store : Store)
    (kept : IsKept space upto first filled (log_of server w capacity journal first filled store.chunks)) (stored : IsStored w (capacity - first) (upto - first) (drop first filled) store) where
  small : capacity ≤ 65536
  small = kept.legal.fits.1

  pub upto_fits : upto ≤ capacity
  upto_fits = prefix_below capacity upto journal small kept.legal.journal kept.reach

  upto_is : prefix journal ≡ upto
  upto_is = prefix_is journal upto kept.reach

  pub first_within : first ≤ upto
  first_within = omega (arith, start_within capacity journal small kept.legal.journal, kept.begin, upto_is)

  pub first_whole : first % 64 ≡ 0
  first_whole = ap (λ (n : ℕ). n % 64) (sym kept.begin) ∙ start_whole capacity journal small kept.legal.journal

  filled_upto : (place : ℕ) → place < upto → get_or filled place false ≡ true
  filled_upto place lt = kept.filled_are place (omega (arith, upto_fits)) ∙ kept.reach.below place lt

  all_marked : (place : ℕ) → place < upto - first → get_or (drop first filled) place false ≡ true
  all_marked place lt = get_or-drop first filled place false ∙ filled_upto (first + place) (omega arith)

  pub store_rows : HaveRows w (upto - first) store.chunks
  store_rows = record { count = (let n = stored.places.count in omega (arith, upto_fits)); each = λ row lt. stored.rows row (all_marked row lt) }

  -- ---- a snapshot

  pub fixed_holds : (new : List (List Halves)) → AreFirst w (upto - first) store.chunks new → (h : Held) (place : ℕ) → h ≡ first_rows w (upto - first) 0 new → place ≡ first
      → HoldsPieces w (pieces_in (take h.rows (drop place (log_of server w capacity journal first filled store.chunks).slots))) h
  fixed_holds new are h place is at =
      let left : drop first (replicate first None ++ stored_slots server w (capacity - first) (drop first filled) store.chunks) ≡ stored_slots server w (capacity - first) (drop first filled) store.chunks =
      drop_at (replicate first None) (stored_slots server w (capacity - first) (drop first filled) store.chunks) first (length-replicate {A = Option Piece} first None) in
      subst (λ (n : ℕ). HoldsPieces w (pieces_in (take h.rows (drop n (log_of server w capacity journal first filled store.chunks).slots))) h) (sym at)
      (subst (λ (slots : List (Option Piece)). HoldsPieces w (pieces_in (take h.rows slots)) h) (sym left)
      (subst (λ (g : Held). HoldsPieces w (pieces_in (take g.rows (stored_slots server w (capacity - first) (drop first filled) store.chunks))) g) (sym is)
      (first_holds server w (capacity - first) (upto - first) (drop first filled) store.chunks (omega (arith, upto_fits)) all_marked new are)))

  pub fixed_reach : (place rows : ℕ) → place ≡ first → rows ≡ upto - first → IsPrefixOf journal (place + rows)
  fixed_reach place rows at is = subst (IsPrefixOf journal) (let sum : upto ≡ place + rows = omega (arith, first_within) in sum) kept.reach

  -- ---- a placing

  module _ (place : ℕ) (piece : Piece) (lt : place < capacity) where
    -- at a place that is in the journal nothing changes
    pub taken_is : get_or filled place false ≡ true → placed (log_of server w capacity journal first filled store.chunks) place piece ≡ log_of server w capacity journal first filled store.chunks
    taken_is there =
        ap (λ (b : Bool). cond b (log_of server w capacity journal first filled store.chunks)
        (record (log_of server w capacity journal first filled store.chunks) { journal = journal ++ place ∷ []; slots = set (log_of server w capacity journal first filled store.chunks).slots place (Some piece) }))
        (sym (kept.filled_are place lt) ∙ there)

    module _ (free : get_or filled place false ≡ false) where
      absent : has place journal ≡ false
      absent = sym (kept.filled_are place lt) ∙ free

      pub past_prefix : upto ≤ place
      past_prefix = ⊎_elim (λ (less : place < upto). let yes : get_or filled place false ≡ true = filled_upto place less in absurd cc) (λ (le : upto ≤ place). le) (cases_lt place upto)

      pub past_start : first ≤ place
      past_start = omega (arith, past_prefix, first_within)

      pub past_sealed : 64 * store.sealed ≤ place - first
      past_sealed = (let s = stored.shared in omega (arith, past_prefix))

      next_journal : IsJournal capacity (journal ++ place ∷ [])
      next_journal = journal_placed capacity journal place kept.legal.journal lt absent

      pub journal_room : length journal < space
      journal_room = omega (arith, few_entries capacity (journal ++ place ∷ []) small next_journal, length-append journal (place ∷ []), kept.room)

      rest_filled : drop first (set filled place true) ≡ set (drop first filled) (place - first) true
      rest_filled = let same : place ≡ first + (place - first) = omega (arith, past_start) in ap (λ (n : ℕ). drop first (set filled n true)) same ∙ drop-set-add first filled (place - first) true

      next_start : start (journal ++ place ∷ []) ≡ first
      next_start = start_placed journal place (omega (arith, small)) ∙ kept.begin

      next_filled : (x : ℕ) → x < capacity → get_or (set filled place true) x false ≡ has x (journal ++ place ∷ [])
      next_filled = by_place place (λ (x : ℕ). x < capacity → get_or (set filled place true) x false ≡ has x (journal ++ place ∷ []))
          (λ x e less. ap (λ (n : ℕ). get_or (set filled place true) n false) e ∙ get_or-set_same filled place true false (omega (arith, kept.marks))
          ∙ sym (ap (λ (n : ℕ). has n (journal ++ place ∷ [])) e ∙ has_self place journal))
          (λ x ne less. get_or-set_other filled place x true false ne ∙ kept.filled_are x less ∙ sym (has_other x place journal ne))

      module _ (new : Store) (is : PlaceWritten w (place - first) piece.cells.first piece.cells.second store.chunks new.chunks) (own : IsOwn server w piece) where
        slots_are : (log_of server w capacity (journal ++ place ∷ []) first (set filled place true) new.chunks).slots ≡ set (log_of server w capacity journal first filled store.chunks).slots place (Some piece)
        slots_are =
            ap (λ (marks : List Bool). replicate first None ++ stored_slots server w (capacity - first) marks new.chunks) rest_filled
            ∙ ap (λ (slots : List (Option Piece)). replicate first None ++ slots) (slots_written server w (place - first) piece store.chunks new.chunks is own.server own.widths (capacity - first) (drop first filled) stored.marks (omega (arith, past_start)))
            ∙ sym (lead_set first (stored_slots server w (capacity - first) (drop first filled) store.chunks) place (Some piece) past_start)

        pub placed_is : log_of server w capacity (journal ++ place ∷ []) first (set filled place true) new.chunks ≡ placed (log_of server w capacity journal first filled store.chunks) place piece
        placed_is =
            ap (λ (slots : List (Option Piece)). record { server = server; widths = w; capacity = capacity; journal = journal ++ place ∷ []; slots = slots }) slots_are
            ∙ sym (ap (λ (b : Bool). cond b (log_of server w capacity journal first filled store.chunks)
            (record (log_of server w capacity journal first filled store.chunks) { journal = journal ++ place ∷ []; slots = set (log_of server w capacity journal first filled store.chunks).slots place (Some piece) })) absent)

        module _ (next : ℕ) (later : upto ≤ next) (most : next ≤ length (set filled place true)) (below : (x : ℕ) → upto ≤ x → x < next → get_or (set filled place true) x false ≡ true) (gap : get_or (set filled place true) next false ≡ false) where
          next_fits : next ≤ capacity
          next_fits = omega (arith, most, length-set filled place true, kept.marks)

          reach_gap : has next (journal ++ place ∷ []) ≡ false
          reach_gap = ⊎_elim (λ (less : next < capacity). sym (next_filled next less) ∙ gap) (λ (all : capacity ≤ next). by all (has next (journal ++ place ∷ [])) refl) (cases_lt next capacity)
            where
              by : capacity ≤ next → (b : Bool) → has next (journal ++ place ∷ []) ≡ b → has next (journal ++ place ∷ []) ≡ false
              by all false e = e
              by all true e = let less : next < capacity = place_below capacity (journal ++ place ∷ []) next small next_journal (omega (arith, next_fits, small)) e in absurd (omega arith)

          pub log_kept : IsKept space next first (set filled place true) (log_of server w capacity (journal ++ place ∷ []) first (set filled place true) new.chunks)
          log_kept = record {
            legal = log_legal server capacity first w (journal ++ place ∷ []) (set filled place true) new.chunks kept.legal.fits (length-set filled place true ∙ kept.marks) (omega (arith, first_within, upto_fits)) next_journal next_start next_filled;
            room = kept.room;
            reach = record {
              below = λ x less. ⊎_elim (λ (early : x < upto). has_kept x place journal (kept.reach.below x early))
                  (λ (late : upto ≤ x). sym (next_filled x (omega (arith, next_fits))) ∙ below x late less) (cases_lt x upto);
              next = reach_gap;
            };
            begin = next_start;
            marks = length-set filled place true ∙ kept.marks;
            filled_are = next_filled;
          }

          pub log_stored : new.sealed ≡ store.sealed → IsStored w (capacity - first) (next - first) (drop first (set filled place true)) new
          log_stored sealed = subst (λ (marks : List Bool). IsStored w (capacity - first) (next - first) marks new) (sym rest_filled)
              (written_stored w (capacity - first) (upto - first) (next - first) (place - first) (drop first filled) piece.cells.first piece.cells.second store new stored is sealed (omega (arith, later)) (omega (arith, past_start)) own.widths (sym piece.cells.lengths ∙ own.widths))

  -- ---- a retirement

  module _ (before : ℕ) where
    target : 64 * (min before upto / 64) ≡ start_for before journal
    target = ap (λ (n : ℕ). 64 * (min before n / 64)) (sym upto_is)

    -- where the start doesn't rise nothing changes
    pub stays_is : 64 * (min before upto / 64) ≤ first → retired (log_of server w capacity journal first filled store.chunks) before ≡ log_of server w capacity journal first filled store.chunks
    stays_is le =
        ap (λ (b : Bool). cond b (record (log_of server w capacity journal first filled store.chunks) {
          journal = journal ++ mark_of (start_for before journal) ∷ [];
          slots = slots_from (start_for before journal) (log_of server w capacity journal first filled store.chunks).slots;
        }) (log_of server w capacity journal first filled store.chunks)) (le-ltb (start journal) (start_for before journal) (omega (arith, target, kept.begin)))

    module _ (s : ℕ) (to : s ≡ 64 * (min before upto / 64)) (more : first < s) where
      to_start : s ≡ start_for before journal
      to_start = to ∙ target

      s_fits : s ≤ upto
      s_fits = omega arith

      s_whole : s % 64 ≡ 0
      s_whole = omega arith

      left_whole : (s - first) % 64 ≡ 0
      left_whole = omega (arith, s_whole, first_whole)

      pub chunks_there : (s - first) / 64 ≤ length store.chunks
      chunks_there = (let n = stored.places.count in omega (arith, s_fits, upto_fits))

      marked_journal : IsJournal capacity (journal ++ mark_of s ∷ [])
      marked_journal = journal_marked capacity journal s kept.legal.journal s_whole (omega (arith, kept.begin)) (omega (arith, s_fits, upto_is))

      pub mark_room : length journal < space
      mark_room = omega (arith, few_entries capacity (journal ++ mark_of s ∷ []) small marked_journal, length-append journal (mark_of s ∷ []), kept.room)

      marked_has : (x : ℕ) → x ≤ capacity → has x (journal ++ mark_of s ∷ []) ≡ has x journal
      marked_has x le = has_other x (mark_of s) journal (λ (e : x ≡ mark_of s). absurd (omega (arith, small)))

      module _ (new : Store) (chunks : new.chunks ≡ drop ((s - first) / 64) store.chunks) where
        slots_left : stored_slots server w (capacity - s) (drop s filled) new.chunks ≡ drop s (log_of server w capacity journal first filled store.chunks).slots
        slots_left =
            let size : capacity - first - (s - first) ≡ capacity - s = omega arith in
            let sum : first + (s - first) ≡ s = omega arith in
            ap (stored_slots server w (capacity - s) (drop s filled)) chunks
            ∙ sym (lead_drop first s (stored_slots server w (capacity - first) (drop first filled) store.chunks) (omega arith)
            ∙ slots_dropped w (s - first) store.chunks left_whole server (capacity - first) (drop first filled) (omega (arith, s_fits, upto_fits))
            ∙ ap (λ (n : ℕ). stored_slots server w n (drop (s - first) (drop first filled)) (drop ((s - first) / 64) store.chunks)) size
            ∙ ap (λ (marks : List Bool). stored_slots server w (capacity - s) marks (drop ((s - first) / 64) store.chunks)) (drop-drop (s - first) first filled ∙ ap (λ (n : ℕ). drop n filled) sum))

        pub retired_is : log_of server w capacity (journal ++ mark_of s ∷ []) s filled new.chunks ≡ retired (log_of server w capacity journal first filled store.chunks) before
        retired_is =
            ap (λ (slots : List (Option Piece)). record { server = server; widths = w; capacity = capacity; journal = journal ++ mark_of s ∷ []; slots = replicate s None ++ slots }) slots_left
            ∙ ap (λ (n : ℕ). record (log_of server w capacity journal first filled store.chunks) { journal = journal ++ mark_of n ∷ []; slots = slots_from n (log_of server w capacity journal first filled store.chunks).slots }) to_start
            ∙ sym (ap (λ (b : Bool). cond b (record (log_of server w capacity journal first filled store.chunks) {
              journal = journal ++ mark_of (start_for before journal) ∷ [];
              slots = slots_from (start_for before journal) (log_of server w capacity journal first filled store.chunks).slots;
            }) (log_of server w capacity journal first filled store.chunks)) (lt-ltb (start journal) (start_for before journal) (omega (arith, kept.begin, to_start))))

        pub retired_kept : IsKept space upto s filled (log_of server w capacity (journal ++ mark_of s ∷ []) s filled new.chunks)
        retired_kept =
            let filled_are = λ (x : ℕ). λ (lt : x < capacity). kept.filled_are x lt ∙ sym (marked_has x (omega arith)) in
            record {
              legal = log_legal server capacity s w (journal ++ mark_of s ∷ []) filled new.chunks kept.legal.fits kept.marks (omega (arith, s_fits, upto_fits)) marked_journal (start_marked journal s) filled_are;
              room = kept.room;
              reach = record { below = λ x lt. has_kept x (mark_of s) journal (kept.reach.below x lt); next = marked_has upto upto_fits ∙ kept.reach.next };
              begin = start_marked journal s;
              marks = kept.marks;
              filled_are = filled_are;
            }

        pub retired_stored : new.sealed ≡ store.sealed - (s - first) / 64 → IsStored w (capacity - s) (upto - s) (drop s filled) new
        retired_stored sealed =
            let size : capacity - first - (s - first) ≡ capacity - s = omega arith in
            let rows : upto - first - (s - first) ≡ upto - s = omega arith in
            let sum : first + (s - first) ≡ s = omega arith in
            subst (λ (n : ℕ). IsStored w n (upto - s) (drop s filled) new) size
            (subst (λ (n : ℕ). IsStored w (capacity - first - (s - first)) n (drop s filled) new) rows
            (subst (λ (marks : List Bool). IsStored w (capacity - first - (s - first)) (upto - first - (s - first)) marks new) (drop-drop (s - first) first filled ∙ ap (λ (n : ℕ). drop n filled) sum)
            (stored_dropped w (capacity - first) (upto - first) (s - first) (drop first filled) store new stored left_whole (omega (arith, s_fits)) (omega (arith, upto_fits)) chunks sealed)))
