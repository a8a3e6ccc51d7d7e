use Rattle.std.proofs.Common.{◌∙◌, rules, map}
use Rattle.std.specs.Prelude.{string_bytes, IsSome}
use Rattle.text_script.specs.Words.Jobs.{asked_job}
use Rattle.text_script.proofs.OfWords.JobLemmas.{if_asked_within}
use Rattle.text_script.proofs.OfWords.ReadLemmas.{job_is, fits_takes}
use Rattle.text_script.proofs.words.words.read_words.Goals as goal

pub returns-in-Ok-clause-job : goal.returns-in-Ok-clause-job
returns-in-Ok-clause-job c = c.job_found.ensures ∙ job_is (map string_bytes c.args.words.now) _ c.in-Ok.ensures.matches (search rules)

pub returns-in-Ok-clause-limits : goal.returns-in-Ok-clause-limits
returns-in-Ok-clause-limits c =
    if_asked_within (map string_bytes c.args.words.now) _ (c.job_found.ensures ∙ job_is (map string_bytes c.args.words.now) _ c.in-Ok.ensures.matches (search rules))

pub want_of_memory-requires : goal.want_of_memory-requires
want_of_memory-requires c =
    let fits : IsSome (asked_job (map string_bytes c.args.words.now)) = search rules in
    c.in-Err.ensures.memory (fits_takes (map string_bytes c.args.words.now) fits)
