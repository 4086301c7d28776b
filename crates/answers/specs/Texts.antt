-- How answers are told.
use Rattle.std.specs.Prelude.{ℕ, Bool, true, false, List, [], ◌++◌, is_ok, Ok, Err, codes, decimal, Result}
use Rattle.refusal.specs.Told.{counts_text, told}
use Rattle.refusal.specs.declared.Refusal.{Refusal}
use Rattle.card.specs.declared.state.Signed.{Signed as Made}
use Rattle.calls.specs.declared.reply.Reply.{Reply}
use Rattle.calls.specs.declared.reply.Reply.TheVariants as replies
use Rattle.script.specs.Streams.{stream_name}
use Rattle.answers.specs.Spelling.{hex_text, spell}
use Rattle.answers.specs.declared.answer.Answer.{Answer}
use Rattle.answers.specs.declared.answer.Answer.TheVariants.{Checked, NoTill, Loaded, Signed, Remasked, Reported, NoCard, Filled}
use Rattle.life.specs.declared.call.Call.{Call}
use Rattle.life.specs.declared.call.Call.TheVariants.{Sign, Remask, Report}

-- the line did what it was asked
abbrev pub answer_is_ok : Answer → Bool
answer_is_ok (Checked r) = is_ok r
answer_is_ok NoTill = false
answer_is_ok (Loaded r) = is_ok r
answer_is_ok (Signed r) = is_ok r
answer_is_ok (Remasked r) = is_ok r
answer_is_ok (Reported r) = true
answer_is_ok (NoCard c) = false
answer_is_ok (Filled s r) = is_ok r

-- what a card's reply is told as
abbrev pub answer_of : Reply → Answer
answer_of (replies.Signed r) = Signed r
answer_of (replies.Remasked r) = Remasked r
answer_of (replies.Reported r) = Reported r

abbrev pub call_name : Call → List ℕ
call_name (Sign digest tries) = codes "sign"
call_name Remask = codes "remask"
call_name Report = codes "report"

abbrev pub answer_text : Answer → List ℕ
answer_text (Checked (Ok p)) = codes "check ok counter " ++ (decimal p.counter ++ (codes " digest " ++ spell hex_text p.digest))
answer_text (Checked (Err e)) = codes "check refused " ++ told e
answer_text NoTill = codes "check no till"
answer_text (Loaded (Ok masks)) = codes "load ok masks " ++ decimal masks
answer_text (Loaded (Err e)) = codes "load refused " ++ told e
answer_text (Signed (Ok s)) = codes "sign ok counter " ++ (decimal s.counter ++ (codes " " ++ counts_text s.counts))
answer_text (Signed (Err e)) = codes "sign refused " ++ told e
answer_text (Remasked (Ok masks)) = codes "remask ok masks " ++ decimal masks
answer_text (Remasked (Err e)) = codes "remask refused " ++ told e
answer_text (Reported r) = codes "report counter " ++ (decimal r.counter ++ (codes " shares " ++ decimal r.shares))
answer_text (NoCard c) = call_name c ++ codes " no card"
answer_text (Filled s (Ok u)) = stream_name s ++ codes " ok"
answer_text (Filled s (Err e)) = stream_name s ++ (codes " refused " ++ told e)

-- an answer, and behind one that made a record the record's bytes
abbrev pub record_text : Result Made Refusal → List ℕ → List ℕ
record_text (Ok s) made = codes " record " ++ spell hex_text made
record_text (Err e) made = []

abbrev pub told_text : Answer → List ℕ → List ℕ
told_text (Signed r) made = answer_text (Signed r) ++ record_text r made
told_text (Checked r) made = answer_text (Checked r)
told_text NoTill made = answer_text NoTill
told_text (Loaded r) made = answer_text (Loaded r)
told_text (Remasked r) made = answer_text (Remasked r)
told_text (Reported r) made = answer_text (Reported r)
told_text (NoCard c) made = answer_text (NoCard c)
told_text (Filled s r) made = answer_text (Filled s r)
