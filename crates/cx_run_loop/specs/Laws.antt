-- The laws of a job's runs that its drive stands on, together.
use Rattle.std.specs.Prelude.{List}
use Rattle.cx_plan.specs.declared.job.Job.{Job}
use Rattle.cx_plan.specs.Setups.{setup_of}
use Rattle.cx_rule.specs.Routine.{Rule}
use Rattle.law_parts.specs.Beginnings.{Beginning, IsBeginning, run_of}
use Rattle.law_parts.specs.Totals.{undivided_from}
use Rattle.law_reached.specs.Works.{WorksInOrder}
use Rattle.law_course.specs.Beginnings.{CourseGoesOn, FittingCanBegin}
use Rattle.law_course.specs.Courses.{CourseRises, CourseSplits, CourseFits, StatesPackAgain}
use Rattle.law_course.specs.Starts.{TrailsBegin, course_in}
use Rattle.law_course.specs.Works.{EachWorkFollows}
use Rattle.cx_run_loop.specs.Within.{CountsStay}

pub record DriveLaws (tells : Type 0) (job : Job) (rules : List Rule) : Type 0 where
  pub works : (b : Beginning) → IsBeginning (setup_of job) b
      → WorksInOrder tells (run_of job rules b) (undivided_from (setup_of job) rules b)
  pub goes_on : CourseGoesOn (setup_of job) job.key rules
  pub follow : EachWorkFollows (setup_of job) job.key rules
  pub rises : CourseRises (setup_of job) (course_in job rules)
  pub splits : CourseSplits (setup_of job) (course_in job rules)
  pub fits : CourseFits job rules
  pub pack : StatesPackAgain (setup_of job)
  pub can_begin : FittingCanBegin job
  pub begin : TrailsBegin job rules
  pub counts : (b : Beginning) → IsBeginning (setup_of job) b → CountsStay tells job rules b
