use Rattle.cx_text.specs.declared.token.Style.TheVariants as styles
use Rattle.cx_param.specs.Params.{params}
use Rattle.cx_job_files.proofs.ReadingLaws as laws
use Rattle.cx_job_files.proofs.reading.param_file.Goals as goal

pub returns : goal.returns
returns g c = laws.file_passed_from g.H.Shelf styles.Ccl params.derives c.args.name.now
    c.args.shelf.now c.required_tokens.new.shelf
    c.in_ok-tokens.tokens c.read_params.result c.named_tree.result c.in_ok-tokens.ensures.follows
    c.read_params.ensures.answers c.named_tree.ensures
