pub mod Conversation
pub mod Answering
pub mod Clauses
pub mod History
