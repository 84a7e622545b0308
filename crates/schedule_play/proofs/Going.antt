-- What steps did to the wires.
use Rattle.std.proofs.Common.{◌≡◌, ◌∙◌, refl, sym, ap, subst, ℕ, zero, suc, ◌+◌, ◌<◌, ◌≤◌, inl, inr, Bool, true, false, cond, eqb, eq-eqb, ne_eqb, ◌||◌, ◌&&◌, List, [], ◌∷◌, ◌++◌, append_assoc, append-nil, length, get_or, set, arith}
use Rattle.std.specs.List.{list_any}
use Rattle.std.proofs.lemmas.Bool.{and_cases, both_ways, or_parts}
use Rattle.std.proofs.lemmas.List.{set-get_or}
use Rattle.fault_count.specs.Causes.{Rose}
use Rattle.wire_line.specs.Carried.{went_both, went_none}
use Rattle.wire_line.specs.Messages.{Went}
use Rattle.wire_line.specs.declared.message.Message.{Message}
use Rattle.schedule_play.specs.History.{Done, has_answer, is_answer, sent_by}
use Rattle.schedule_play.specs.Stages.{actor_in}
use Rattle.schedule_play.specs.Wires.{WireWent, WiresWent}
use Rattle.wire_line.specs.Lists.{RoseAt}
use Rattle.wire_line.specs.Sights.{Sight, HasAltered, NonePasses, BothPass}

-- ---- the messages of an actor's answers

cond_append : (b : Bool) (ms xs ys : List Message) → cond b (ms ++ (xs ++ ys)) (xs ++ ys) ≡ cond b (ms ++ xs) xs ++ ys
cond_append true ms xs ys = sym (append_assoc ms xs ys)
cond_append false ms xs ys = refl

sent_both : (actor : ℕ) (ds es : List Done) → sent_by actor (ds ++ es) ≡ sent_by actor ds ++ sent_by actor es
sent_both actor [] es = refl
sent_both actor (d ∷ ds) es =
    ap (λ (l : List Message). cond (eqb (actor_in d.step) actor) (d.messages ++ l) l) (sent_both actor ds es)
    ∙ cond_append (eqb (actor_in d.step) actor) d.messages (sent_by actor ds) (sent_by actor es)

sent_own : (d : Done) (actor : ℕ) → actor_in d.step ≡ actor → sent_by actor (d ∷ []) ≡ d.messages
sent_own d actor e = ap (λ (b : Bool). cond b (d.messages ++ []) []) (eq-eqb (actor_in d.step) actor e) ∙ append-nil d.messages

sent_other : (d : Done) (actor : ℕ) → (actor_in d.step ≡ actor → ⊥) → sent_by actor (d ∷ []) ≡ []
sent_other d actor other = ap (λ (b : Bool). cond b (d.messages ++ []) []) (ne_eqb (actor_in d.step) actor other)

or_assoc : (a b c : Bool) → (a || (b || c)) ≡ ((a || b) || c)
or_assoc true b c = refl
or_assoc false b c = refl

any_both : (test : Done → Bool) (ds es : List Done) → list_any test (ds ++ es) ≡ (list_any test ds || list_any test es)
any_both test [] es = refl
any_both test (d ∷ ds) es = ap (λ (b : Bool). test d || b) (any_both test ds es) ∙ or_assoc (test d) (list_any test ds) (list_any test es)

answers_both : (actor : ℕ) (ds es : List Done) → has_answer actor (ds ++ es) ≡ false → (has_answer actor ds ≡ false) × (has_answer actor es ≡ false)
answers_both actor ds es none = or_parts _ _ (sym (any_both (λ (d : Done). is_answer d.step && eqb (actor_in d.step) actor) ds es) ∙ none)

answer_own : (d : Done) (actor : ℕ) → actor_in d.step ≡ actor → has_answer actor (d ∷ []) ≡ false → is_answer d.step ≡ false
answer_own d actor e none = elim (and_cases (is_answer d.step) (eqb (actor_in d.step) actor) (or_parts _ _ none).0) [
  | inl quiet ↦ quiet
  | inr other ↦ absurd (both_ways _ other (eq-eqb (actor_in d.step) actor e))
]

-- ---- counts that rose

rose_on : (a b c : ℕ) → Rose a b → b ≤ c → Rose a c
rose_on a b c r h = omega (arith, r)

rose_from : (a b c : ℕ) → a ≤ b → Rose b c → Rose a c
rose_from a b c h r = omega (arith, r)

module _ {W : Type 0} (sight : Sight W) where
  -- ---- no step

  pub wires_none : NonePasses sight → (b : ℕ) (vs : List W) → WiresWent sight [] b vs vs
  wires_none none b [] = tt
  wires_none none b (v ∷ vs) = (record { went = went_none sight v v refl refl (none v); still = λ _. refl }, wires_none none (b + 1) vs)

  -- ---- some steps after others

  wire_both : BothPass sight → (ds es : List Done) (actor : ℕ) (v u w : W) → WireWent sight ds actor v u → WireWent sight es actor u w
      → WireWent sight (ds ++ es) actor v w
  wire_both both ds es actor v u w p q = record {
    went = subst (λ (ms : List Message). Went sight v ms w) (sym (sent_both actor ds es))
        (went_both sight both v u w (sent_by actor ds) (sent_by actor es) p.went q.went);
    still = λ none. let parts = answers_both actor ds es none in q.still parts.1 ∙ p.still parts.0;
  }

  pub wires_both : BothPass sight → (ds es : List Done) (b : ℕ) (vs us ws : List W) → WiresWent sight ds b vs us → WiresWent sight es b us ws
      → WiresWent sight (ds ++ es) b vs ws
  wires_both both ds es b [] [] [] p q = tt
  wires_both both ds es b [] [] (w ∷ ws) p q = absurd q
  wires_both both ds es b [] (u ∷ us) ws p q = absurd p
  wires_both both ds es b (v ∷ vs) [] ws p q = absurd p
  wires_both both ds es b (v ∷ vs) (u ∷ us) [] p q = absurd q
  wires_both both ds es b (v ∷ vs) (u ∷ us) (w ∷ ws) p q = (wire_both both ds es b v u w p.0 q.0, wires_both both ds es (b + 1) vs us ws p.1 q.1)

  -- a count that rose in some steps has risen over all of them
  pub rose_first : (b : ℕ) (ds es : List Done) (actor : ℕ) (vs us ws : List W) → WiresWent sight ds b vs us → WiresWent sight es b us ws
      → RoseAt sight actor vs us → RoseAt sight actor vs ws
  rose_first b ds es actor [] us ws p q r = absurd r
  rose_first b ds es actor (v ∷ vs) [] ws p q r = absurd p
  rose_first b ds es actor (v ∷ vs) (u ∷ us) [] p q r = absurd q
  rose_first b ds es zero (v ∷ vs) (u ∷ us) (w ∷ ws) p q r = rose_on (sight.alterations v) (sight.alterations u) (sight.alterations w) r q.0.went.grows
  rose_first b ds es (suc actor) (v ∷ vs) (u ∷ us) (w ∷ ws) p q r = rose_first (b + 1) ds es actor vs us ws p.1 q.1 r

  pub rose_last : (b : ℕ) (ds es : List Done) (actor : ℕ) (vs us ws : List W) → WiresWent sight ds b vs us → WiresWent sight es b us ws
      → RoseAt sight actor us ws → RoseAt sight actor vs ws
  rose_last b ds es actor [] [] ws p q r = absurd r
  rose_last b ds es actor [] (u ∷ us) ws p q r = absurd p
  rose_last b ds es actor (v ∷ vs) [] ws p q r = absurd p
  rose_last b ds es actor (v ∷ vs) (u ∷ us) [] p q r = absurd q
  rose_last b ds es zero (v ∷ vs) (u ∷ us) (w ∷ ws) p q r = rose_from (sight.alterations v) (sight.alterations u) (sight.alterations w) p.0.went.grows r
  rose_last b ds es (suc actor) (v ∷ vs) (u ∷ us) (w ∷ ws) p q r = rose_last (b + 1) ds es actor vs us ws p.1 q.1 r

  -- ---- one step

  wire_other : NonePasses sight → (d : Done) (actor : ℕ) (v : W) → (actor_in d.step ≡ actor → ⊥) → WireWent sight (d ∷ []) actor v v
  wire_other none d actor v other = record {
    went = subst (λ (ms : List Message). Went sight v ms v) (sym (sent_other d actor other)) (went_none sight v v refl refl (none v));
    still = λ _. refl;
  }

  wire_own : (d : Done) (actor : ℕ) (v w : W) → actor_in d.step ≡ actor → Went sight v d.messages w → (is_answer d.step ≡ false → w ≡ v)
      → WireWent sight (d ∷ []) actor v w
  wire_own d actor v w own went quiet = record {
    went = subst (λ (ms : List Message). Went sight v ms w) (sym (sent_own d actor own)) went;
    still = λ none. quiet (answer_own d actor own none);
  }

  wires_other : NonePasses sight → (d : Done) (b : ℕ) (vs : List W) → actor_in d.step < b → WiresWent sight (d ∷ []) b vs vs
  wires_other none d b [] lt = tt
  wires_other none d b (v ∷ vs) lt = (wire_other none d b v (λ e. omega (arith, e, lt)), wires_other none d (b + 1) vs (omega (arith, lt)))

  pub wires_one : NonePasses sight → (d : Done) (b i : ℕ) (vs : List W) (v w : W) → i < length vs → v ≡ get_or vs i v → actor_in d.step ≡ b + i
      → Went sight v d.messages w → (is_answer d.step ≡ false → w ≡ v) → WiresWent sight (d ∷ []) b vs (set vs i w)
  wires_one none d b i [] v w lt is own went quiet = absurd (omega arith)
  wires_one none d b zero (x ∷ xs) v w lt is own went quiet = (
    subst (λ (u : W). WireWent sight (d ∷ []) b u w) is (wire_own d b v w (omega (arith, own)) went quiet),
    wires_other none d (b + 1) xs (omega (arith, own)),
  )
  wires_one none d b (suc i) (x ∷ xs) v w lt is own went quiet =
      (wire_other none d b x (λ e. omega (arith, e, own)), wires_one none d (b + 1) i xs v w (omega arith) is (omega (arith, own)) went quiet)

  -- a wire that is as it was
  pub wires_still : NonePasses sight → (i : ℕ) (vs : List W) (v w : W) → v ≡ get_or vs i v → w ≡ v → WiresWent sight [] 0 vs (set vs i w)
  wires_still none i vs v w is same =
      subst (λ (ws : List W). WiresWent sight [] 0 vs ws) (sym (ap (set vs i) (same ∙ is) ∙ set-get_or vs i v)) (wires_none none 0 vs)

  -- the count of its wire rose
  pub rose_here : (i : ℕ) (vs : List W) (v w : W) → i < length vs → v ≡ get_or vs i v → HasAltered sight v w → RoseAt sight i vs (set vs i w)
  rose_here i [] v w lt is r = absurd (omega arith)
  rose_here zero (x ∷ xs) v w lt is r = subst (λ (u : W). HasAltered sight u w) is r
  rose_here (suc i) (x ∷ xs) v w lt is r = rose_here i xs v w (omega arith) is r
