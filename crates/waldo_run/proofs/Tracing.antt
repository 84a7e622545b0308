-- The reply to a command's steps, as the command reports it.
use Rattle.std.proofs.Common.{◌≡◌, ◌∙◌, refl, sym, ap, ℕ, List, length, map}
use Rattle.query_plan.specs.Query.{shaped}
use Rattle.query_plan.specs.declared.query.Query.{Query}
use Rattle.report_lines.specs.declared.lines.Line.{Line}
use Rattle.table_schema.specs.declared.rows.Row.{Row}
use Rattle.waldo_words.specs.declared.command.Common.{Common}
use Rattle.waldo_words.specs.declared.command.Command.{Command}
use Rattle.waldo_words.specs.declared.command.Command.TheVariants as commands
use Rattle.waldo_run.specs.Replies.{Reply, reported}
use Rattle.waldo_run.specs.Tasks.{bits_of}
use Rattle.waldo_run.specs.Traces.{noted_over, traced}
use Rattle.waldo_run.specs.declared.seen.Noted.{Noted}

-- the status stays
pub reported_status : (command : Command) (rows : List Row) (reply : Reply) → (reported command rows reply).status ≡ reply.status
reported_status (commands.Ask c) rows reply = refl
reported_status (commands.Replay c schedule) rows reply = refl
reported_status (commands.Race c writers askers rounds) rows reply = refl
reported_status (commands.Make c number count) rows reply = refl
reported_status (commands.Trace c) rows reply = refl
reported_status (commands.Tamper c shifts) rows reply = refl
reported_status (commands.Tree c low high) rows reply = refl
reported_status (commands.Groups c groups) rows reply = refl

-- the reply of `trace`, as the code makes it
pub traced_reply : (command : Command) (c : Common) (rows : List Row) (reply made : Reply) (bits : List ℕ) (n : ℕ) (qs : List Query) (seen told : List Noted) (lines report : List Line) (status : ℕ)
    → command ≡ commands.Trace c → bits ≡ bits_of c → n ≡ length rows → qs ≡ c.queries → seen ≡ map (λ (q : Query). noted_over bits n (shaped q)) qs
    → told ≡ seen → lines ≡ reply.report → report ≡ traced 0 told lines → status ≡ reply.status → made ≡ record { status = status; report = report }
    → made ≡ reported command rows reply
traced_reply command c rows reply made bits n qs seen told lines report status is same_bits same_rows same_queries are told_is lines_are report_is status_is made_is =
    let over : List ℕ → ℕ → List Query → List Noted = λ b m l. map (λ (q : Query). noted_over b m (shaped q)) l in
    let all : seen ≡ over (bits_of c) (length rows) c.queries =
    are ∙ ap (λ (b : List ℕ). over b n qs) same_bits ∙ ap (λ (m : ℕ). over (bits_of c) m qs) same_rows ∙ ap (over (bits_of c) (length rows)) same_queries in
    let text : report ≡ traced 0 (over (bits_of c) (length rows) c.queries) reply.report =
    report_is ∙ ap (λ (s : List Noted). traced 0 s lines) (told_is ∙ all) ∙ ap (traced 0 (over (bits_of c) (length rows) c.queries)) lines_are in
    let with_both : ℕ → List Line → Reply = λ s l. record { status = s; report = l } in
    made_is ∙ ap (λ (s : ℕ). with_both s report) status_is ∙ ap (with_both reply.status) text ∙ sym (ap (λ (x : Command). reported x rows reply) is)
