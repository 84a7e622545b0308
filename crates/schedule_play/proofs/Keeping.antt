-- A loop over steps, from one time round to the next.
use Rattle.std.proofs.Common.{◌≡◌, ◌∙◌, refl, sym, subst, ℕ, ◌+◌, List, [], ◌++◌, length, arith, length-append}
use Rattle.table_schema.specs.declared.widths.Widths.{Widths}
use Rattle.waldo_words.specs.declared.schedule.Step.{Step}
use Rattle.schedule_play.specs.Leads.{Leads, Stops}
use Rattle.schedule_play.specs.Ready.{IsReady, stage_of}
use Rattle.schedule_play.specs.Tasks.{Setting}
use Rattle.schedule_play.specs.declared.play.PlayFault.{PlayFault}
use Rattle.schedule_play.specs.declared.progress.Progress.{Progress}
use Rattle.schedule_play.specs.declared.style.Style.{Style}
use Rattle.schedule_play.proofs.Kept.{Kept}
use Rattle.schedule_play.proofs.Outcomes.{leads_both, leads_none, leads_stops, stops_more}
use Rattle.wire_line.specs.Sights.{Sight, NonePasses, BothPass}

module _ {W : Type 0} (sight : Sight W) (w : Widths) (s : Setting) (style : Style) where
  pub kept_first : NonePasses sight → (p : Progress) (vs : List W) → IsReady w s p → Kept sight w s style p vs [] p vs
  kept_first none p vs ready =
      record { ready = ready; done = omega arith; same = refl; leads = leads_none sight w s style none (stage_of p) vs }

  pub kept_more : BothPass sight → (first mid now : Progress) (vs us ws : List W) (xs ys zs : List Step) → zs ≡ xs ++ ys → Kept sight w s style first vs xs mid us
      → IsReady w s now → now.done ≡ mid.done + length ys → length ws ≡ length us → Leads sight w s style (stage_of mid) us ys (stage_of now) ws
      → Kept sight w s style first vs zs now ws
  kept_more both first mid now vs us ws xs ys zs are kept ready done same leads =
      subst (λ (l : List Step). Kept sight w s style first vs l now ws) (sym are)
      (record {
        ready = ready;
        done = omega (arith, done, kept.done, length-append xs ys);
        same = same ∙ kept.same;
        leads = leads_both sight w s style both (stage_of first) (stage_of mid) (stage_of now) vs us ws xs ys kept.leads leads;
      })

  pub kept_stops : BothPass sight → (first mid : Progress) (vs us ws : List W) (xs ys rest zs : List Step) (fault : PlayFault) → zs ≡ (xs ++ ys) ++ rest
      → Kept sight w s style first vs xs mid us → Stops sight w s style mid.done (stage_of mid) us ys ws fault
      → Stops sight w s style first.done (stage_of first) vs zs ws fault
  kept_stops both first mid vs us ws xs ys rest zs fault are kept stops =
      subst (λ (l : List Step). Stops sight w s style first.done (stage_of first) vs l ws fault) (sym are)
      (stops_more sight w s style first.done (stage_of first) vs ws (xs ++ ys) rest fault
      (leads_stops sight w s style both first.done (stage_of first) (stage_of mid) vs us ws xs ys fault kept.leads
      (subst (λ (t : ℕ). Stops sight w s style t (stage_of mid) us ys ws fault) kept.done stops)))
