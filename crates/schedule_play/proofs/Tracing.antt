-- What the servers see of steps, one after another.
use Rattle.std.proofs.Common.{◌≡◌, ◌∙◌, refl, sym, ap, subst, ℕ, ◌<◌, List, [], ◌∷◌, ◌++◌, append_assoc, length, Option, Some, None, IsSomeAnd, arith}
use Rattle.table_schema.specs.declared.widths.Widths.{Widths}
use Rattle.visit_trace.specs.Expected.{trace_of}
use Rattle.visit_trace.specs.Growing.{grew_both, prefix_begun, prefix_cut, seen_joins, seen_then, then_nothing}
use Rattle.visit_trace.specs.Seen.{AllSeen, Grew, GrewPrefix, alike}
use Rattle.visit_trace.specs.declared.sizes.Sizes.{Sizes}
use Rattle.waldo_core.specs.Core.{Core}
use Rattle.waldo_core.specs.declared.events.Event.{Event}
use Rattle.waldo_words.specs.declared.schedule.Step.{Step}
use Rattle.schedule_play.specs.History.{Done, IsHistory, nothing_opened}
use Rattle.schedule_play.specs.Leads.{Advances, EndsAt}
use Rattle.schedule_play.specs.Stages.{Stage, event_of, next_stage}
use Rattle.schedule_play.specs.Tasks.{Setting}
use Rattle.schedule_play.specs.Traces.{AddsUpTo, event_sizes, sizes_behind, sizes_from, traces_of}
use Rattle.schedule_play.specs.declared.play.PlayFault.{PlayFault}
use Rattle.schedule_play.specs.declared.play.PlayFault.TheVariants.{NotAllowed, Memory}
use Rattle.schedule_play.specs.declared.style.Style.{Style}
use Rattle.schedule_play.specs.declared.style.Style.TheVariants.{Queries}
use Rattle.schedule_play.proofs.Alike.{AreAlike, AlikeAfter, alike_itself, event_alike, next_alike}

-- ---- traces one after another

pub traces_both : (xs ys : List Sizes) → traces_of (xs ++ ys) ≡ seen_then (traces_of xs) (traces_of ys)
traces_both [] ys = refl
traces_both (z ∷ zs) ys = ap (seen_then (trace_of z)) (traces_both zs ys) ∙ sym (seen_joins (trace_of z) (traces_of zs) (traces_of ys))

-- a single trace
pub traces_single : (z : Sizes) → traces_of (z ∷ []) ≡ trace_of z
traces_single z = ap alike (then_nothing (trace_of z).zero)

-- more traces behind a prefix
pub prefix_more : (xs ys : List Sizes) (a b : AllSeen) → GrewPrefix a b (traces_of xs) → GrewPrefix a b (traces_of (xs ++ ys))
prefix_more xs ys a b p = subst (GrewPrefix a b) (sym (traces_both xs ys)) (prefix_cut a b (traces_of xs) (traces_of ys) p)

-- some answers and then others
pub adds_grew : (xs ys : List Sizes) (a b d : AllSeen) → Grew a b (traces_of xs) → Grew b d (traces_of ys) → Grew a d (traces_of (xs ++ ys))
adds_grew xs ys a b d p q = subst (Grew a d) (sym (traces_both xs ys)) (grew_both a b d (traces_of xs) (traces_of ys) p q)

adds_begun : (xs ys : List Sizes) (a b d : AllSeen) → Grew a b (traces_of xs) → GrewPrefix b d (traces_of ys) → GrewPrefix a d (traces_of (xs ++ ys))
adds_begun xs ys a b d p q = subst (GrewPrefix a d) (sym (traces_both xs ys)) (prefix_begun a b d (traces_of xs) (traces_of ys) p q)

-- ---- sizes one after another

module _ (w : Widths) (s : Setting) where
  behind_alike : (f : Stage → List Sizes) → ((a b : Stage) → AreAlike a b → f a ≡ f b) → (o p : Option Stage) → AlikeAfter o p → sizes_behind f o ≡ sizes_behind f p
  behind_alike f same None None e = refl
  behind_alike f same None (Some b) e = absurd e
  behind_alike f same (Some a) None e = absurd e
  behind_alike f same (Some a) (Some b) e = same a b e

  -- stages that differ in their lines alone
  pub sizes_alike : (xs : List Step) (a b : Stage) → AreAlike a b → sizes_from w s a xs ≡ sizes_from w s b xs
  sizes_alike [] a b e = refl
  sizes_alike (x ∷ xs) a b e =
      let rest : Stage → List Sizes = λ next. sizes_from w s next xs in
      ap (λ (core : Core). event_sizes w core (event_of s a x) ++ sizes_behind rest (next_stage s Queries a x nothing_opened)) e.core
      ∙ ap (λ (o : Option Event). event_sizes w b.core o ++ sizes_behind rest (next_stage s Queries a x nothing_opened)) (event_alike s a b x e)
      ∙ ap (λ (l : List Sizes). event_sizes w b.core (event_of s b x) ++ l)
      (behind_alike rest (sizes_alike xs) _ _ (next_alike s Queries Queries a b x nothing_opened nothing_opened e))

  -- other steps behind steps that were done
  pub sizes_both : (style : Style) (xs ys : List Step) (ds : List Done) (a stage mid : Stage) → AreAlike a stage → Advances w s style stage xs ds mid
      → sizes_from w s a (xs ++ ys) ≡ sizes_from w s a xs ++ sizes_from w s mid ys
  sizes_both style [] ys [] a stage mid e p = sizes_alike ys a stage e ∙ ap (λ (m : Stage). sizes_from w s m ys) (sym p)
  sizes_both style [] ys (d ∷ ds) a stage mid e p = absurd p
  sizes_both style (x ∷ xs) ys [] a stage mid e p = absurd p
  sizes_both style (x ∷ xs) ys (d ∷ ds) a stage mid e p =
      let here = event_sizes w a.core (event_of s a x) in
      let last = sizes_from w s mid ys in
      ap (λ (l : List Sizes). here ++ l) (by (λ u v. sizes_both style xs ys ds u v mid) _ _ (next_alike s Queries style a stage x nothing_opened d.pair e) p.2)
      ∙ sym (append_assoc here (sizes_behind (λ (next : Stage). sizes_from w s next xs) (next_stage s Queries a x nothing_opened)) last)
    where
      by : ((u v : Stage) → AreAlike u v → Advances w s style v xs ds mid → sizes_from w s u (xs ++ ys) ≡ sizes_from w s u xs ++ sizes_from w s mid ys)
          → (o q : Option Stage) → AlikeAfter o q → IsSomeAnd q (λ (next : Stage). Advances w s style next xs ds mid)
          → sizes_behind (λ (next : Stage). sizes_from w s next (xs ++ ys)) o ≡ sizes_behind (λ (next : Stage). sizes_from w s next xs) o ++ sizes_from w s mid ys
      by rest None None e p = absurd p
      by rest None (Some v) e p = absurd e
      by rest (Some u) None e p = absurd p
      by rest (Some u) (Some v) e p = rest u v e p

  -- steps behind one without a case
  pub sizes_refused : (style : Style) (xs ys : List Step) (ds : List Done) (a stage : Stage) → AreAlike a stage → IsHistory w s style stage xs ds → length ds < length xs
      → sizes_from w s a (xs ++ ys) ≡ sizes_from w s a xs
  sizes_refused style [] ys ds a stage e h lt = absurd (omega (arith, lt))
  sizes_refused style (x ∷ xs) ys [] a stage e h lt =
      ap (λ (l : List Sizes). event_sizes w a.core (event_of s a x) ++ l) (by _ _ (next_alike s Queries style a stage x nothing_opened nothing_opened e) (h nothing_opened))
    where
      by : (o q : Option Stage) → AlikeAfter o q → q ≡ None
          → sizes_behind (λ (next : Stage). sizes_from w s next (xs ++ ys)) o ≡ sizes_behind (λ (next : Stage). sizes_from w s next xs) o
      by None q e none = refl
      by (Some u) None e none = absurd e
      by (Some u) (Some v) e none = cc
  sizes_refused style (x ∷ xs) ys (d ∷ ds) a stage e h lt =
      ap (λ (l : List Sizes). event_sizes w a.core (event_of s a x) ++ l) (by (λ u v alike history. sizes_refused style xs ys ds u v alike history (omega (arith, lt))) _ _
      (next_alike s Queries style a stage x nothing_opened d.pair e) h.2)
    where
      by : ((u v : Stage) → AreAlike u v → IsHistory w s style v xs ds → sizes_from w s u (xs ++ ys) ≡ sizes_from w s u xs)
          → (o q : Option Stage) → AlikeAfter o q → IsSomeAnd q (λ (next : Stage). IsHistory w s style next xs ds)
          → sizes_behind (λ (next : Stage). sizes_from w s next (xs ++ ys)) o ≡ sizes_behind (λ (next : Stage). sizes_from w s next xs) o
      by rest None None e p = absurd p
      by rest None (Some v) e p = absurd e
      by rest (Some u) None e p = absurd p
      by rest (Some u) (Some v) e p = rest u v e p

  -- a prefix of steps has a prefix of the sizes
  pub sizes_more : (xs ys : List Step) (a : Stage) → (more : List Sizes) × (sizes_from w s a (xs ++ ys) ≡ sizes_from w s a xs ++ more)
  sizes_more [] ys a = (sizes_from w s a ys, refl)
  sizes_more (x ∷ xs) ys a =
      let here = event_sizes w a.core (event_of s a x) in
      let q = by (sizes_more xs ys) (next_stage s Queries a x nothing_opened) in (
        q.0,
        ap (λ (l : List Sizes). here ++ l) q.1
            ∙ sym (append_assoc here (sizes_behind (λ (next : Stage). sizes_from w s next xs) (next_stage s Queries a x nothing_opened)) q.0),
      )
    where
      by : ((next : Stage) → (more : List Sizes) × (sizes_from w s next (xs ++ ys) ≡ sizes_from w s next xs ++ more))
          → (o : Option Stage) → (more : List Sizes)
          × (sizes_behind (λ (next : Stage). sizes_from w s next (xs ++ ys)) o ≡ sizes_behind (λ (next : Stage). sizes_from w s next xs) o ++ more)
      by rest None = ([], refl)
      by rest (Some next) = rest next

  -- ---- steps

  module _ (style : Style) where
    -- some steps and then others
    pub traces_steps : (xs ys zs : List Step) (ds : List Done) (stage mid : Stage) (a b d : AllSeen) → zs ≡ xs ++ ys → Advances w s style stage xs ds mid
        → Grew a b (traces_of (sizes_from w s stage xs)) → Grew b d (traces_of (sizes_from w s mid ys)) → Grew a d (traces_of (sizes_from w s stage zs))
    traces_steps xs ys zs ds stage mid a b d are p f g =
        subst (λ (l : List Sizes). Grew a d (traces_of l)) (sym (ap (sizes_from w s stage) are ∙ sizes_both style xs ys ds stage stage mid (alike_itself stage) p))
        (adds_grew (sizes_from w s stage xs) (sizes_from w s mid ys) a b d f g)

    -- some steps, and then these ended
    adds_after : (xs ys : List Sizes) (a b d : AllSeen) (fault : PlayFault) → Grew a b (traces_of xs) → AddsUpTo ys b d fault → AddsUpTo (xs ++ ys) a d fault
    adds_after xs ys a b d (NotAllowed t) f g = adds_grew xs ys a b d f g
    adds_after xs ys a b d Memory f g = adds_begun xs ys a b d f g

    -- more steps behind
    adds_behind : (t : ℕ) (xs ys : List Step) (ds : List Done) (stage : Stage) (a b : AllSeen) (fault : PlayFault) → EndsAt w s style t stage xs ds fault
        → AddsUpTo (sizes_from w s stage xs) a b fault → AddsUpTo (sizes_from w s stage (xs ++ ys)) a b fault
    adds_behind t xs ys ds stage a b (NotAllowed index) ends f =
        subst (λ (zs : List Sizes). Grew a b (traces_of zs)) (sym (sizes_refused style xs ys ds stage stage (alike_itself stage) ends.0 ends.1)) f
    adds_behind t xs ys ds stage a b Memory ends f =
        let more = sizes_more xs ys stage in
        subst (λ (zs : List Sizes). GrewPrefix a b (traces_of zs)) (sym more.1) (prefix_more (sizes_from w s stage xs) more.0 a b f)

    pub traces_stop : (t : ℕ) (xs ys rest zs : List Step) (ds es : List Done) (stage mid : Stage) (a b d : AllSeen) (fault : PlayFault) → zs ≡ (xs ++ ys) ++ rest
        → Advances w s style stage xs ds mid → EndsAt w s style t mid ys es fault
        → Grew a b (traces_of (sizes_from w s stage xs)) → AddsUpTo (sizes_from w s mid ys) b d fault → AddsUpTo (sizes_from w s stage zs) a d fault
    traces_stop t xs ys rest zs ds es stage mid a b d fault are p ends f g =
        subst (λ (l : List Step). AddsUpTo (sizes_from w s stage l) a d fault) (sym (are ∙ append_assoc xs ys rest))
        (subst (λ (l : List Sizes). AddsUpTo l a d fault) (sym (sizes_both style xs (ys ++ rest) ds stage stage mid (alike_itself stage) p))
        (adds_after (sizes_from w s stage xs) (sizes_from w s mid (ys ++ rest)) a b d fault f (adds_behind t ys rest es mid b d fault ends g)))
