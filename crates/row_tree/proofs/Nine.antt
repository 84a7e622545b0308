-- The nine messages, group by group.
use Rattle.std.proofs.Common.{◌≡◌, ℕ, zero, suc, ◌+◌, ◌*◌, ◌-◌, ◌<◌, ◌≤◌, ltb, true, false, List, [], ◌∷◌, ◌++◌, length, slice_index, refl, sym, ap, subst, ⊎_elim, ◌∙◌, arith, length-append}
use Rattle.std.proofs.lemmas.Bool.{cases_Bool, ltb-true, ltb-false}
use Rattle.wire_line.specs.declared.message.Message.{Message}
use Rattle.wire_line.specs.declared.message.Peer.TheVariants.{Client}
use Rattle.wire_line.specs.Messages.{message_at}
use Rattle.wire_line.specs.Carried.{message_before, message_from, message_after}
use Rattle.ring128.specs.Ring.{plus}
use Rattle.transcript.specs.Steps.{peer_of}
use Rattle.transcript.specs.Transcript.{Fits}
use Rattle.server_rounds.specs.declared.way.Way.TheVariants.{ToServers, ToClient}
use Rattle.server_rounds.specs.Groups.{IsGroup, by_server}
use Rattle.server_rounds.specs.Rounds.{IsOpened, sum_word}
use Rattle.query_plan.specs.Views.{View}
use Rattle.server_rounds.proofs.Messages.{regroup, three_same}
use Rattle.query_plan.specs.KeyMessages.{Asked}
use Rattle.row_tree.specs.declared.opening.Sums.{Sums}
use Rattle.row_tree.specs.Column.{Tree}
use Rattle.row_tree.specs.Sides.{AreSums, sides_of}
use Rattle.row_tree.specs.Rounds.{IsTreePart, Sides, sides_over, tree_counter, tree_opened, word_in}

-- the key messages, as far as they were carried
pub keys_part : (s : Sides) (ms : List Message) → IsGroup ToServers s.keys ms → IsTreePart s ms
keys_part s ms g = record {
  few = omega (arith, g.few);
  keys = λ k b h. g.fits k h;
  openings = λ run k two b h. absurd (omega (arith, g.few));
}

same_word : (s : Sides) (ms ns : List Message) (run k : ℕ) → k < length ms → word_in s ms run k ≡ word_in s (ms ++ ns) run k
same_word s ms ns run k h =
    ap (λ (m : Message). sum_word (s.read m.received) run (s.first k) (s.second k) (tree_counter run) ∷ []) (sym (message_before ms ns k h))

-- and then those of a run
pub run_part : (s : Sides) (ms ns : List Message) (run : ℕ) → run < 2 → length ms ≡ 3 + 3 * run → IsTreePart s ms → IsGroup ToClient (word_in s ms run) ns
    → IsTreePart s (ms ++ ns)
run_part s ms ns run two long part group = record {
  few = omega (arith, length-append ms ns, long, group.few);
  keys = λ k b h. let e : k < length ms = omega (arith, long) in
      subst (λ (m : Message). Fits m Client (peer_of k) (s.keys k)) (sym (message_before ms ns k e)) (part.keys k b e);
  openings = λ r k r2 b h. at r k r2 b h;
}
  where
    at : (r k : ℕ) → r < 2 → k < 3 → 3 + 3 * r + k < length (ms ++ ns)
        → Fits (message_at (ms ++ ns) (3 + 3 * r + k)) (peer_of k) Client (word_in s (ms ++ ns) r k)
    at r k r2 b h =
        let place = 3 + 3 * r + k in
        let early : k < length ms = omega (arith, long) in
        ⊎_elim
        (λ (e : ltb place (length ms) ≡ true).
        let less = ltb-true place (length ms) e in
        subst (λ (m : Message). Fits m (peer_of k) Client (word_in s (ms ++ ns) r k)) (sym (message_before ms ns place less))
        (subst (λ (l : List ℕ). Fits (message_at ms place) (peer_of k) Client l) (same_word s ms ns r k early) (part.openings r k r2 b less)))
        (λ (e : ltb place (length ms) ≡ false).
        let more = ltb-false place (length ms) e in
        let all = length-append ms ns in
        let same : r ≡ run = omega (arith, more, long, all, h, group.few) in
        let here : place ≡ length ms + k = omega (arith, same, long) in
        let inside : k < length ns = omega (arith, here, all, h) in
        let word : word_in s ms run k ≡ word_in s (ms ++ ns) r k = ap (λ x. word_in s ms x k) (sym same) ∙ same_word s ms ns r k early in
        subst (λ (m : Message). Fits m (peer_of k) Client (word_in s (ms ++ ns) r k)) (sym (ap (message_at (ms ++ ns)) here ∙ message_after ms ns k))
        (subst (λ (l : List ℕ). Fits (message_at ns k) (peer_of k) Client l) word (group.fits k inside)))
        (cases_Bool (ltb place (length ms)))

-- what a run opened, whatever follows
pub opened_in : (ms ns later : List Message) (run total : ℕ) → length ms ≡ 3 + 3 * run → IsOpened ns total → total ≡ tree_opened ((ms ++ ns) ++ later) run
opened_in ms ns later run total long opened =
    opened.sum
    ∙ (ap (λ (m : Message). plus (plus (slice_index m.received 0) (slice_index (message_at ns 1).received 0)) (slice_index (message_at ns 2).received 0)) (at 0 (omega (arith, opened.full)))
    ∙ (ap (λ (m : Message). plus (plus (slice_index (message_at all (3 + 3 * run + 0)).received 0) (slice_index m.received 0)) (slice_index (message_at ns 2).received 0)) (at 1 (omega (arith, opened.full)))
    ∙ ap (λ (m : Message). plus (plus (slice_index (message_at all (3 + 3 * run + 0)).received 0) (slice_index (message_at all (3 + 3 * run + 1)).received 0)) (slice_index m.received 0))
    (at 2 (omega (arith, opened.full)))))
  where
    all : List Message
    all = (ms ++ ns) ++ later

    at : (k : ℕ) → k < length ns → message_at ns k ≡ message_at all (3 + 3 * run + k)
    at k h =
        let here : length ms + k ≡ 3 + 3 * run + k = omega (arith, long) in
        sym (message_after ms ns k)
        ∙ (sym (message_before (ms ++ ns) later (length ms + k) (omega (arith, length-append ms ns))) ∙ ap (message_at ((ms ++ ns) ++ later)) here)

-- the words of a run, where the servers read these views
pub group_words : (s : Sides) (views : ℕ → View) (ms ns : List Message) (run : ℕ) → ((k : ℕ) → k < 3 → views k ≡ s.read (message_at ms k).received)
    → IsGroup ToClient (by_server (sum_word (views 0) run (s.first 0) (s.second 0) (tree_counter run) ∷ []) (sum_word (views 1) run (s.first 1) (s.second 1) (tree_counter run) ∷ [])
    (sum_word (views 2) run (s.first 2) (s.second 2) (tree_counter run) ∷ [])) ns
    → IsGroup ToClient (word_in s ms run) ns
group_words s views ms ns run seen g =
    let at = λ (k : ℕ) (h : k < 3). ap (λ (v : View). sum_word v run (s.first k) (s.second k) (tree_counter run) ∷ []) (seen k h) in
    regroup ToClient _ (word_in s ms run) ns g (three_same _ (word_in s ms run) (at 0 (omega arith)) (at 1 (omega arith)) (at 2 (omega arith)))

pub group_later : (s : Sides) (ms later ns : List Message) (run : ℕ) → 3 ≤ length ms → IsGroup ToClient (word_in s ms run) ns → IsGroup ToClient (word_in s (ms ++ later) run) ns
group_later s ms later ns run h g = regroup ToClient (word_in s ms run) (word_in s (ms ++ later) run) ns g (λ k b. same_word s ms later run k (omega arith))

-- what the messages rest on, by the sums that the servers made
pub sides_same : (asked : Asked) (x y z : Sums) (t u v : Tree) (low high : ℕ) → AreSums t low high x → AreSums u low high y → AreSums v low high z
    → sides_of asked x y z ≡ sides_over asked t u v low high
sides_same asked x y z t u v low high a b c = rw (a.first, a.second, b.first, b.second, c.first, c.second) refl
