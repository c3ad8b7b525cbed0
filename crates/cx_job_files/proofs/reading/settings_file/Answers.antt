use Rattle.cx_text.specs.declared.token.Style.TheVariants as styles
use Rattle.cx_parfile.specs.ParFile.{parameter_file}
use Rattle.cx_parfile.specs.Values.{base_of}
use Rattle.cx_job_files.proofs.ReadingLaws as laws
use Rattle.cx_job_files.proofs.reading.settings_file.Goals as goal

pub returns : goal.returns
returns g c = laws.file_passed_from g.H.Shelf styles.Par
    (parameter_file (base_of c.args.name.now)).derives c.args.name.now
    c.args.shelf.now c.required_tokens.new.shelf
    c.in_ok-tokens.tokens c.read_parfile.result c.named_tree.result c.in_ok-tokens.ensures.follows
    (rw c.in_ok-base.ensures at c.read_parfile.ensures.answers) c.named_tree.ensures
