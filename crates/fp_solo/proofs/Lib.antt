pub mod SolvingLemmas
pub mod AgendaLemmas
pub mod ReadLemmas
pub mod JoinLemmas
pub mod QuestionLemmas
pub mod WorkLemmas
pub mod CountLemmas
