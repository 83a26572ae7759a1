pub mod AnswerTests
pub mod Laws
